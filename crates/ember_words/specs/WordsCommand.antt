-- What command the words give. Here and in the clauses of this crate are words of the ported clap:
--
--   App                   a parser, as definitions see it; a Rule describes one of its arguments
--   new_app name          a parser without arguments
--   new_rule name         the rule of an argument that isn't an option and may be left out
--   with_rule app rule    the parser with one argument more
--   app_of, rule_of       the App of a value of clap's type Command, the Rule of one of its type Arg
--   fault_of app words    the kinds of error that the parser may give at the words; none if it takes them
--   kind_of error         the kind of an error
--   matches_of app words  a row for each argument, with the argument's name and its values
--   rows_of (found_of m)  the rows that clap found
--   first_of name rows    the first value of an argument, if it has any; all_of name rows gives all of them
--   is_simple_and_free app   the condition under which fault_of and matches_of say what clap does: the parser has
--                         no setting that changes how words are read, only the last of its arguments that aren't
--                         options takes several values, and no argument has a rule on another, such as a conflict
use Rattle.std.specs.Prelude.{◌≡◌, ◌≢◌, ⊤, ℕ, ℤ, Bool, codes, List, [], ◌∷◌, Option, Some, None, Result}
use Rattle.std.specs.Prelude.{Ok, Err, option_and_then, if◌then◌else◌}
use Rattle.std.specs.Str.{bytes_eq}
use Rattle.clap.specs.Walk.{Row, Text, all_of, first_of, rows_of}
use Rattle.clap.specs.Matches.{found_of}
use Rattle.clap.specs.declared.parser.matches.ArgMatches.{ArgMatches}
use Rattle.clap.specs.Simple.{App, matches_of}
use Rattle.clap.specs.Kinds.{Kinds}
use Rattle.clap.specs.Faults.{fault_of}
use Rattle.ember_model.specs.declared.point.Spot.{Spot}
use Rattle.ember_words.specs.declared.command.Command.{Command}
use Rattle.ember_words.specs.declared.command.Command.TheVariants as command
use Rattle.ember_words.specs.declared.command.WordsFault.{WordsFault}
use Rattle.ember_words.specs.declared.command.WordsFault.TheVariants.{Words, OutOfMemory}
use Rattle.ember_words.specs.declared.verb.Verb.{Verb}
use Rattle.ember_words.specs.declared.verb.Verb.TheVariants as verb
use Rattle.ember_words.specs.Limits.{height_of, is_set, names_in_limits, nonempty_of, number_within}
use Rattle.ember_words.specs.Limits.{optional_of, point_of}
use Rattle.ember_words.specs.Commands.{faces_app, at_app, bool_app, demo_app, voxels_app, pairs_app, slice_app}

-- the result is the value; or the words are refused, if there is none; or out-of-memory
abbrev pub Reads : {T : Type 0} → Option T → Result T WordsFault → Type 0
Reads value (Ok x) = value ≡ Some x
Reads value (Err Words) = value ≡ None
Reads value (Err OutOfMemory) = ⊤

-- clap found these matches in the words of a command; or it refuses the words; or out-of-memory
abbrev pub Finds : App → List Text → Result ArgMatches WordsFault → Type 0
Finds app words (Ok m) = (fault_of app words ≡ []) × (rows_of (found_of m) ≡ matches_of app words)
Finds app words (Err Words) = fault_of app words ≢ []
Finds app words (Err OutOfMemory) = ⊤

-- ---- values of the rows that clap finds

-- the number of an argument, if it is from `least` to `most`
abbrev pub number_in : ℕ → ℕ → Text → List Row → Option ℕ
number_in least most id rows = option_and_then (number_within least most) (first_of id rows)

-- 1 to 64 workers, 0 to 3 places
abbrev pub workers_in : List Row → Option ℕ
workers_in = number_in 1 64 (codes "workers")

abbrev pub places_in : List Row → Option ℕ
places_in = number_in 0 3 (codes "places")

-- the text of an argument, if it isn't empty
abbrev pub text_in : Text → List Row → Option Text
text_in id rows = option_and_then nonempty_of (first_of id rows)

-- the file names, if they are within the limits
abbrev pub files_in : List Row → Option (List Text)
files_in rows = option_and_then names_in_limits (all_of (codes "files") rows)

-- ---- the command of the values

abbrev pub faces_with : Option ℕ → Option Text → Option Command
faces_with (Some places) (Some file) = Some (command.Faces places file)
faces_with _ _ = None

abbrev pub at_with : Option Spot → Option (Option Text) → Option ℕ → Option (List Text) → Option Command
at_with (Some point) (Some expr) (Some places) (Some files) = Some (command.At point expr places files)
at_with _ _ _ _ = None

abbrev pub bool_with : Option Text → Option ℕ → Option ℕ → Bool → Option (List Text) → Option Command
bool_with (Some expr) (Some workers) (Some places) report (Some files) =
    Some (command.Boole expr workers places report files)
bool_with _ _ _ _ _ = None

abbrev pub demo_with : Option ℕ → Option ℕ → Option Command
demo_with (Some boxes) (Some workers) = Some (command.Demo boxes workers)
demo_with _ _ = None

abbrev pub voxels_with : Option Text → Option ℕ → Option ℕ → Option ℕ → Option (List Text) → Option Command
voxels_with (Some expr) (Some size) (Some workers) (Some places) (Some files) =
    Some (command.Voxels expr size workers places files)
voxels_with _ _ _ _ _ = None

abbrev pub pairs_with : Option ℕ → Option ℕ → Option (List Text) → Option Command
pairs_with (Some workers) (Some places) (Some files) = Some (command.Pairs workers places files)
pairs_with _ _ _ = None

abbrev pub slice_with : Option ℤ → Option Text → Option Command
slice_with (Some height) (Some file) = Some (command.Slice height file)
slice_with _ _ = None

abbrev pub faces_command_of : List Row → Option Command
faces_command_of rows = faces_with (places_in rows) (text_in (codes "file") rows)

abbrev pub at_command_of : List Row → Option Command
at_command_of rows =
    at_with (option_and_then point_of (first_of (codes "point") rows)) (optional_of (first_of (codes "expr") rows))
    (places_in rows) (files_in rows)

abbrev pub bool_command_of : List Row → Option Command
bool_command_of rows =
    bool_with (text_in (codes "expr") rows) (workers_in rows) (places_in rows)
    (is_set (first_of (codes "report") rows)) (files_in rows)

abbrev pub demo_command_of : List Row → Option Command
demo_command_of rows = demo_with (number_in 1 20000 (codes "boxes") rows) (workers_in rows)

abbrev pub voxels_command_of : List Row → Option Command
voxels_command_of rows =
    voxels_with (text_in (codes "expr") rows) (number_in 4 12 (codes "size") rows) (workers_in rows) (places_in rows)
    (files_in rows)

abbrev pub pairs_command_of : List Row → Option Command
pairs_command_of rows = pairs_with (workers_in rows) (places_in rows) (files_in rows)

abbrev pub slice_command_of : List Row → Option Command
slice_command_of rows =
    slice_with (option_and_then height_of (first_of (codes "at") rows)) (text_in (codes "file") rows)

-- ---- the words

-- the value, unless clap has a fault
abbrev pub unless_refused : {T : Type 0} → Kinds → Option T → Option T
unless_refused [] value = value
unless_refused (kind ∷ kinds) value = None

-- the command that the first word names
abbrev pub verb_of : Text → Option Verb
verb_of name =
    if bytes_eq name (codes "faces") then Some verb.Faces
    else (if bytes_eq name (codes "at") then Some verb.At
    else (if bytes_eq name (codes "bool") then Some verb.Boole
    else (if bytes_eq name (codes "demo") then Some verb.Demo
    else (if bytes_eq name (codes "voxels") then Some verb.Voxels
    else (if bytes_eq name (codes "pairs") then Some verb.Pairs
    else (if bytes_eq name (codes "slice") then Some verb.Slice
    else None))))))

-- clap's model of the parser for a command
abbrev pub app_for : Verb → App
app_for verb.Faces = faces_app
app_for verb.At = at_app
app_for verb.Boole = bool_app
app_for verb.Demo = demo_app
app_for verb.Voxels = voxels_app
app_for verb.Pairs = pairs_app
app_for verb.Slice = slice_app

-- the command, if the values are within the limits
abbrev pub command_of_rows : Verb → List Row → Option Command
command_of_rows verb.Faces = faces_command_of
command_of_rows verb.At = at_command_of
command_of_rows verb.Boole = bool_command_of
command_of_rows verb.Demo = demo_command_of
command_of_rows verb.Voxels = voxels_command_of
command_of_rows verb.Pairs = pairs_command_of
command_of_rows verb.Slice = slice_command_of

-- clap takes the words after the first one, and the values that it finds are within the limits
abbrev pub taken_by : Verb → List Text → Option Command
taken_by v words = unless_refused (fault_of (app_for v) words) (command_of_rows v (matches_of (app_for v) words))

-- the command that the words give, None if they are refused
abbrev pub command_of : List Text → Option Command
command_of [] = None
command_of (name ∷ words) = option_and_then (λ v. taken_by v (name ∷ words)) (verb_of name)
