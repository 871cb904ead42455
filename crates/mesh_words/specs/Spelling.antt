-- How arguments are spelled as words
use Rattle.std.specs.Prelude.{◌≡◌, ⊤, false, List, [], ◌∷◌, ◌++◌, codes}
use Rattle.mesh_words.specs.declared.names.Operation.{Operation}
use Rattle.mesh_words.specs.declared.names.Operation.TheVariants as operation
use Rattle.mesh_words.specs.declared.names.Setting.{Setting}
use Rattle.mesh_words.specs.declared.names.Setting.TheVariants as setting
use Rattle.mesh_words.specs.declared.arguments.Argument.{Argument}
use Rattle.mesh_words.specs.declared.arguments.Argument.TheVariants.{File, Value, Quiet, Json, Help}
use Rattle.mesh_words.specs.Names.{Text}
use Rattle.mesh_words.specs.Streams.{is_option_word}

-- the name of the command
abbrev pub name_of : Operation → Text
name_of operation.Union = codes "union"
name_of operation.Difference = codes "difference"
name_of operation.Intersection = codes "intersection"
name_of operation.Expression = codes "bool"

-- the name of the option
abbrev pub option_of : Setting → Text
option_of setting.Expression = codes "--expr"
option_of setting.Output = codes "-o"
option_of setting.Format = codes "--format"
option_of setting.Step = codes "--step"
option_of setting.Workers = codes "--workers"
option_of setting.Digits = codes "--digits"
option_of setting.Folder = codes "-d"
option_of setting.Scene = codes "--scene"
option_of setting.Page = codes "--view"
option_of setting.Keep = codes "--keep"
option_of setting.Place = codes "--place"
option_of setting.Turn = codes "--turn"

-- the words of an argument
abbrev pub words_of : Argument → List Text
words_of (File name) = name ∷ []
words_of (Value s text) = option_of s ∷ text ∷ []
words_of Quiet = codes "--quiet" ∷ []
words_of Json = codes "--json" ∷ []
words_of Help = codes "--help" ∷ []

-- the words of several arguments
abbrev pub spelling_of : List Argument → List Text
spelling_of [] = []
spelling_of (argument ∷ arguments) = words_of argument ++ spelling_of arguments

-- no file name begins with a hyphen, but for `-` itself
abbrev pub IsSpelled : Argument → Type 0
IsSpelled (File name) = is_option_word name ≡ false
IsSpelled (Value s text) = ⊤
IsSpelled Quiet = ⊤
IsSpelled Json = ⊤
IsSpelled Help = ⊤

abbrev pub AreSpelled : List Argument → Type 0
AreSpelled [] = ⊤
AreSpelled (argument ∷ arguments) = IsSpelled argument × AreSpelled arguments
