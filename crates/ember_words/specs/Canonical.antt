-- The canonical spelling of a command line: the command's name, its options in the order of the
-- list of commands in docs/use/FORMATS.md ("The command line"), then the file names or BOXES
use Rattle.std.specs.Prelude.{◌≡◌, ◌<◌, ◌-◌, ◌^◌, length, ⊤, ℕ, Bool, false, codes, List, [], ◌∷◌, ◌++◌}
use Rattle.std.specs.Prelude.{Option, Some, None, if◌then◌else◌}
use Rattle.clap.specs.Walk.{Text}
use Rattle.ember_words.specs.declared.command.Command.{Command}
use Rattle.ember_words.specs.Limits.{height_of, is_minus, names_in_limits, nonempty_of, number_within}
use Rattle.ember_words.specs.Limits.{optional_of, point_of}
use Rattle.ember_words.specs.WordsCommand.{at_with, bool_with, demo_with, faces_with, pairs_with}
use Rattle.ember_words.specs.WordsCommand.{slice_with, voxels_with}

-- the value of an option, as `--name=value` or in a word of its own
pub record Given : Type 0 where
  pub value : Text
  pub attached : Bool

-- an option with its value, in one word or in two
abbrev pub given_words : Text → Given → List Text
given_words name g =
    if g.attached then (codes "--" ++ (name ++ (codes "=" ++ g.value))) ∷ [] else (codes "--" ++ name) ∷ g.value ∷ []

-- the words of an option, if it is given
abbrev pub option_words : Text → Option Given → List Text
option_words name None = []
option_words name (Some g) = given_words name g

-- a value that begins with a hyphen is attached
abbrev pub AttachesSign : Given → Type 0
AttachesSign g = g.attached ≡ false → is_minus g.value ≡ false

abbrev pub AttachesSignIfGiven : Option Given → Type 0
AttachesSignIfGiven None = ⊤
AttachesSignIfGiven (Some g) = AttachesSign g

abbrev pub value_or : Text → Option Given → Text
value_or default None = default
value_or default (Some g) = g.value

-- the word of a flag, if it is given
abbrev pub flag_words : Text → Bool → List Text
flag_words name given = if given then (codes "--" ++ name) ∷ [] else []

-- no word begins with a hyphen
abbrev pub ArePlain : List Text → Type 0
ArePlain [] = ⊤
ArePlain (word ∷ words) = (is_minus word ≡ false) × ArePlain words

-- a command in the canonical spelling; of several files the first, and those after it
pub data CommandLine : Type 0 where
  faces_line : Option Given → Text → CommandLine
  at_line : Given → Option Given → Option Given → Text → List Text → CommandLine
  bool_line : Given → Option Given → Option Given → Bool → Text → List Text → CommandLine
  demo_line : Option Given → Text → CommandLine
  voxels_line : Given → Given → Option Given → Option Given → Text → List Text → CommandLine
  pairs_line : Option Given → Option Given → Text → List Text → CommandLine
  slice_line : Given → Text → CommandLine

-- the words after the name
abbrev pub arguments_of : CommandLine → List Text
arguments_of (faces_line places file) = option_words (codes "places") places ++ (file ∷ [])
arguments_of (at_line point expr places file more) =
    ((given_words (codes "point") point ++ option_words (codes "expr") expr) ++
    option_words (codes "places") places) ++ (file ∷ more)
arguments_of (bool_line expr workers places report file more) =
    (((given_words (codes "expr") expr ++ option_words (codes "workers") workers) ++
    option_words (codes "places") places) ++ flag_words (codes "report") report) ++ (file ∷ more)
arguments_of (demo_line workers boxes) = option_words (codes "workers") workers ++ (boxes ∷ [])
arguments_of (voxels_line expr size workers places file more) =
    (((given_words (codes "expr") expr ++ given_words (codes "size") size) ++
    option_words (codes "workers") workers) ++ option_words (codes "places") places) ++ (file ∷ more)
arguments_of (pairs_line workers places file more) =
    (option_words (codes "workers") workers ++ option_words (codes "places") places) ++ (file ∷ more)
arguments_of (slice_line height file) = given_words (codes "at") height ++ (file ∷ [])

-- the name of the command
abbrev pub command_name : CommandLine → Text
command_name (faces_line places file) = codes "faces"
command_name (at_line point expr places file more) = codes "at"
command_name (bool_line expr workers places report file more) = codes "bool"
command_name (demo_line workers boxes) = codes "demo"
command_name (voxels_line expr size workers places file more) = codes "voxels"
command_name (pairs_line workers places file more) = codes "pairs"
command_name (slice_line height file) = codes "slice"

-- the words of a command in the canonical spelling
abbrev pub words_of : CommandLine → List Text
words_of line = command_name line ∷ arguments_of line

-- file names that don't begin with a hyphen, no more than a list can hold
abbrev pub ArePlainNames : Text → List Text → Type 0
ArePlainNames file more = (is_minus file ≡ false) × ArePlain more × (length more < 2 ^ 64 - 1)

-- each value and each last word is spelled as it should be
abbrev pub IsCanonical : CommandLine → Type 0
IsCanonical (faces_line places file) = AttachesSignIfGiven places × (is_minus file ≡ false)
IsCanonical (at_line point expr places file more) =
    AttachesSign point × AttachesSignIfGiven expr × AttachesSignIfGiven places × ArePlainNames file more
IsCanonical (bool_line expr workers places report file more) =
    AttachesSign expr × AttachesSignIfGiven workers × AttachesSignIfGiven places × ArePlainNames file more
IsCanonical (demo_line workers boxes) = AttachesSignIfGiven workers × (is_minus boxes ≡ false)
IsCanonical (voxels_line expr size workers places file more) =
    AttachesSign expr × AttachesSign size × AttachesSignIfGiven workers × AttachesSignIfGiven places ×
    ArePlainNames file more
IsCanonical (pairs_line workers places file more) =
    AttachesSignIfGiven workers × AttachesSignIfGiven places × ArePlainNames file more
IsCanonical (slice_line height file) = AttachesSign height × (is_minus file ≡ false)

abbrev pub workers_of : Option Given → Option ℕ
workers_of workers = number_within 1 64 (value_or (codes "1") workers)

abbrev pub places_of : Option Given → Option ℕ
places_of places = number_within 0 3 (value_or (codes "0") places)

abbrev pub given_value : Option Given → Option Text
given_value None = None
given_value (Some g) = Some g.value

-- the command of the values, None if one of them is past its limits
abbrev pub command_of_line : CommandLine → Option Command
command_of_line (faces_line places file) = faces_with (places_of places) (nonempty_of file)
command_of_line (at_line point expr places file more) =
    at_with (point_of point.value) (optional_of (given_value expr)) (places_of places) (names_in_limits (file ∷ more))
command_of_line (bool_line expr workers places report file more) =
    bool_with (nonempty_of expr.value) (workers_of workers) (places_of places) report (names_in_limits (file ∷ more))
command_of_line (demo_line workers boxes) = demo_with (number_within 1 20000 boxes) (workers_of workers)
command_of_line (voxels_line expr size workers places file more) =
    voxels_with (nonempty_of expr.value) (number_within 4 12 size.value) (workers_of workers) (places_of places)
    (names_in_limits (file ∷ more))
command_of_line (pairs_line workers places file more) =
    pairs_with (workers_of workers) (places_of places) (names_in_limits (file ∷ more))
command_of_line (slice_line height file) = slice_with (height_of height.value) (nonempty_of file)
