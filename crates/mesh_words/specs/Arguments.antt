-- What the words after a command's name mean
use Rattle.std.specs.Prelude.{ℕ, ◌+◌, ◌==◌, ◌||◌, Bool, true, false, List, [], ◌∷◌, ◌++◌, Option, Some}
use Rattle.std.specs.Prelude.{None, Result, Ok, Err, codes, option_map, option_and_then, if◌then◌else◌}
use Rattle.std.specs.Option.{option_or}
use Rattle.std.specs.List.{list_any}
use Rattle.std.specs.Str.{bytes_eq}
use Rattle.mesh_words.specs.declared.faults.Refusal.{Refusal}
use Rattle.mesh_words.specs.declared.faults.Refusal.TheVariants.{UnknownOption, NoValue}
use Rattle.mesh_words.specs.declared.names.Setting.{Setting}
use Rattle.mesh_words.specs.declared.names.Setting.TheVariants as setting
use Rattle.mesh_words.specs.declared.arguments.Argument.{Argument}
use Rattle.mesh_words.specs.declared.arguments.Argument.TheVariants.{File, Value, Quiet, Json, Help}
use Rattle.mesh_words.specs.declared.arguments.WordMeaning.{WordMeaning}
use Rattle.mesh_words.specs.declared.arguments.WordMeaning.TheVariants.{Whole, Waiting, Unknown}
use Rattle.mesh_words.specs.Names.{Text, setting_of, rank}
use Rattle.mesh_words.specs.Streams.{is_option_word}

-- ---- one word
abbrev pub in_front : ℕ → Text × Text → Text × Text
in_front b parts = (b ∷ parts.0, parts.1)

-- the text before the first equals sign (61), and the text after it
abbrev pub parts_of : Text → Option (Text × Text)
parts_of [] = None
parts_of (b ∷ bs) = if b == 61 then Some ([], bs) else option_map (in_front b) (parts_of bs)

abbrev pub with_value : Text → Option Setting → Option (Setting × Text)
with_value value None = None
with_value value (Some s) = Some (s, value)

-- `--name=value`
abbrev pub attached_in : Text → Option (Setting × Text)
attached_in word = option_and_then (λ (p : Text × Text). with_value p.1 (setting_of p.0)) (parts_of word)

-- the word asks for help
abbrev pub is_help : Text → Bool
is_help word = bytes_eq word (codes "--help") || bytes_eq word (codes "-h")

-- the word asks for JSON
abbrev pub is_json : Text → Bool
is_json word = bytes_eq word (codes "--json")

-- one of the words does, wherever it stands
abbrev pub words_ask_json : List Text → Bool
words_ask_json words = list_any is_json words

-- a word that is no option without a value: an option whose value follows, one with its value, or a file name
abbrev pub said_by : Text → Option Setting → Option (Setting × Text) → WordMeaning
said_by word (Some s) a = Waiting s
said_by word None (Some a) = Whole (Value a.0 a.1)
said_by word None None = if is_option_word word then Unknown else Whole (File word)

abbrev pub said_alone : Text → WordMeaning
said_alone word =
    if bytes_eq word (codes "--quiet") then Whole Quiet
    else (if is_json word then Whole Json
    else (if is_help word then Whole Help
    else said_by word (setting_of word) (attached_in word)))

-- what a word means after an option that wants its value, or without one
abbrev pub said : Option Setting → Text → WordMeaning
said (Some s) word = Whole (Value s word)
said None word = said_alone word

-- ---- all words
-- the option that wants a value after this word
abbrev pub waiting_in : WordMeaning → Option Setting
waiting_in (Waiting s) = Some s
waiting_in (Whole i) = None
waiting_in Unknown = None

abbrev pub prepend : Argument → Result (List Argument) Refusal → Result (List Argument) Refusal
prepend i (Ok more) = Ok (i ∷ more)
prepend i (Err why) = Err why

abbrev pub arguments_with : ℕ → WordMeaning → Result (List Argument) Refusal → Result (List Argument) Refusal
arguments_with n (Whole i) behind = prepend i behind
arguments_with n (Waiting s) behind = behind
arguments_with n Unknown behind = Err (UnknownOption n)

abbrev pub arguments_without_words : Option Setting → Result (List Argument) Refusal
arguments_without_words None = Ok []
arguments_without_words (Some s) = Err NoValue

-- the arguments of the words from number n on, after the option that wants its value, if there is one
abbrev pub arguments_from : ℕ → Option Setting → List Text → Result (List Argument) Refusal
arguments_from n waits [] = arguments_without_words waits
arguments_from n waits (word ∷ words) =
    arguments_with n (said waits word) (arguments_from (n + 1) (waiting_in (said waits word)) words)

-- ---- what the arguments give
-- the argument's value, if it is that of the option
abbrev pub value_for : Setting → Argument → Option Text
value_for s (Value t text) = if rank t == rank s then Some text else None
value_for s (File name) = None
value_for s Quiet = None
value_for s Json = None
value_for s Help = None

-- the last value of an option
abbrev pub value_in : Setting → List Argument → Option Text
value_in s [] = None
value_in s (i ∷ more) = option_or (value_in s more) (value_for s i)

-- a list of the text, if there is one
abbrev pub in_list : Option Text → List Text
in_list None = []
in_list (Some text) = text ∷ []

-- all values of an option, in order
abbrev pub values_in : Setting → List Argument → List Text
values_in s [] = []
values_in s (i ∷ more) = in_list (value_for s i) ++ values_in s more

abbrev pub name_in : Argument → List Text
name_in (File name) = name ∷ []
name_in (Value s text) = []
name_in Quiet = []
name_in Json = []
name_in Help = []

-- the file names
abbrev pub names_in : List Argument → List Text
names_in [] = []
names_in (i ∷ more) = name_in i ++ names_in more

-- the names of what the command reads: the files, and the grid of a document
abbrev pub inputs_in : List Argument → List Text
inputs_in arguments = names_in arguments ++ in_list (value_in setting.Scene arguments)

abbrev pub is_quiet : Argument → Bool
is_quiet Quiet = true
is_quiet Json = false
is_quiet Help = false
is_quiet (File name) = false
is_quiet (Value s text) = false

abbrev pub asks_help : Argument → Bool
asks_help Help = true
asks_help Quiet = false
asks_help Json = false
asks_help (File name) = false
asks_help (Value s text) = false
