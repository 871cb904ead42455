-- Why what a command writes is refused
use Rattle.std.specs.Prelude.{ℕ, ◌+◌, ◌||◌, Bool, false, true, List, [], ◌∷◌, length, codes, Option, Some, None}
use Rattle.std.specs.Prelude.{is_some, option_map, if◌then◌else◌}
use Rattle.std.specs.Option.{option_or}
use Rattle.mesh_words.specs.declared.faults.Refusal.{Refusal}
use Rattle.mesh_words.specs.declared.faults.Refusal.TheVariants.{NotFor, Twice, PageEnding, OverInput, OverOutput}
use Rattle.mesh_words.specs.declared.faults.Refusal.TheVariants.{SecondInput}
use Rattle.mesh_words.specs.declared.names.Setting.{Setting}
use Rattle.mesh_words.specs.declared.names.Setting.TheVariants as setting
use Rattle.mesh_words.specs.declared.arguments.Argument.{Argument}
use Rattle.mesh_words.specs.Names.{Text}
use Rattle.mesh_words.specs.Arguments.{inputs_in, value_for, value_in}
use Rattle.mesh_words.specs.Allowed.{first_beside, boolean_settings, snap_settings, export_settings, view_settings}
use Rattle.mesh_words.specs.Folders.{scene_names, kept_names}
use Rattle.mesh_words.specs.Paths.{is_same_path}
use Rattle.mesh_words.specs.Streams.{reads_twice}
use Rattle.mesh_words.specs.Values.{ends_in}

-- ---- a second name
-- the options that name what is written
abbrev pub target_settings : List Setting
target_settings = setting.Output ∷ setting.Folder ∷ setting.Page ∷ setting.Keep ∷ []

-- the option has a value here, and one before
abbrev pub has_second : Setting → Bool → List Argument → Bool
has_second s before [] = false
has_second s before (i ∷ more) =
    if is_some (value_for s i) then before || has_second s true more else has_second s before more

-- the first of these options that has two values
abbrev pub first_twice : List Setting → List Argument → Option Setting
first_twice [] arguments = None
first_twice (s ∷ settings) arguments =
    if has_second s false arguments then Some s else first_twice settings arguments

-- the first option that isn't among these, or the first that names twice what is written
abbrev pub option_fault : List Setting → List Argument → Option Refusal
option_fault settings arguments =
    option_or (option_map NotFor (first_beside settings arguments))
    (option_map Twice (first_twice target_settings arguments))

-- ---- inputs that would be written over
-- the number of the first input of the same path; the first input has number n
abbrev pub first_same : Text → ℕ → List Text → Option ℕ
first_same target n [] = None
first_same target n (input ∷ inputs) =
    if is_same_path target input then Some n else first_same target (n + 1) inputs

-- the same of the first of several paths that has such an input
abbrev pub first_over : List Text → List Text → Option ℕ
first_over [] inputs = None
first_over (target ∷ targets) inputs = option_or (first_same target 0 inputs) (first_over targets inputs)

-- ---- pages
abbrev pub is_page_name : Text → Bool
is_page_name name = ends_in (codes ".html") name || ends_in (codes ".htm") name

-- why a page of this name is refused
abbrev pub page_with : Setting → List Text → Option Text → Option Refusal
page_with s inputs None = None
page_with s inputs (Some name) =
    if is_page_name name then option_map (OverInput s) (first_same name 0 inputs) else Some (PageEnding s)

abbrev pub page_fault : Setting → List Argument → Option Refusal
page_fault s arguments = page_with s (inputs_in arguments) (value_in s arguments)

-- the page is the output
abbrev pub page_over_output : Option Text → Option Text → Option Refusal
page_over_output None output = None
page_over_output (Some page) None = None
page_over_output (Some page) (Some output) =
    if is_same_path output page then Some (OverOutput setting.Page) else None

-- why a page that shows what is written to the output is refused
abbrev pub shown_fault : List Argument → Option Refusal
shown_fault arguments =
    option_or (page_fault setting.Page arguments)
    (page_over_output (value_in setting.Page arguments) (value_in setting.Output arguments))

-- ---- folders; a page has none of the names in them, since they end otherwise
-- one of these files, which the option writes, is the output
abbrev pub over_output : Setting → List Text → Option Text → Option Refusal
over_output s names None = None
over_output s names (Some output) = option_map (λ number. OverOutput s) (first_same output 0 names)

-- why the folder of `snap` is refused
abbrev pub scene_with : List Text → Option Text → Option Refusal
scene_with inputs None = None
scene_with inputs (Some folder) =
    option_map (OverInput setting.Folder) (first_over (scene_names folder (length inputs)) inputs)

abbrev pub scene_fault : List Argument → Option Refusal
scene_fault arguments = scene_with (inputs_in arguments) (value_in setting.Folder arguments)

-- why the folder of a Boolean is refused
abbrev pub keep_with : List Text → Option Text → Option Text → Option Refusal
keep_with inputs output None = None
keep_with inputs output (Some folder) =
    option_or (option_map (OverInput setting.Keep) (first_over (kept_names folder (length inputs)) inputs))
    (over_output setting.Keep (kept_names folder (length inputs)) output)

abbrev pub keep_fault : List Argument → Option Refusal
keep_fault arguments =
    keep_with (inputs_in arguments) (value_in setting.Output arguments) (value_in setting.Keep arguments)

-- ---- inputs
-- standard input is named twice
abbrev pub input_fault : List Argument → Option Refusal
input_fault arguments = if reads_twice (inputs_in arguments) then Some SecondInput else None

-- ---- the commands
abbrev pub boolean_fault : List Argument → Option Refusal
boolean_fault arguments =
    option_or (option_fault boolean_settings arguments) (option_or (shown_fault arguments) (keep_fault arguments))

abbrev pub snap_fault : List Argument → Option Refusal
snap_fault arguments = option_or (option_fault snap_settings arguments) (scene_fault arguments)

abbrev pub export_fault : List Argument → Option Refusal
export_fault arguments =
    option_or (option_fault export_settings arguments) (option_or (input_fault arguments) (shown_fault arguments))

abbrev pub view_fault : List Argument → Option Refusal
view_fault arguments = option_or (option_fault view_settings arguments) (page_fault setting.Output arguments)
