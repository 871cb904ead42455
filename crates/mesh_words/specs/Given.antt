-- The values that words give to options, also if the words are refused for them
use Rattle.std.specs.Prelude.{ℕ, List, [], ◌∷◌, get_or, Option, Some, None, Result, Ok, Err}
use Rattle.mesh_words.specs.declared.faults.Refusal.{Refusal}
use Rattle.mesh_words.specs.declared.names.Setting.{Setting}
use Rattle.mesh_words.specs.declared.names.Setting.TheVariants.{Output, Step}
use Rattle.mesh_words.specs.declared.arguments.Argument.{Argument}
use Rattle.mesh_words.specs.Names.{Text}
use Rattle.mesh_words.specs.Arguments.{arguments_from, inputs_in, value_in}

-- a text, empty if there is none
abbrev pub or_empty : Option Text → Text
or_empty None = []
or_empty (Some text) = text

-- the last value of an option among the arguments that were read, empty if they were refused
abbrev pub value_among : Setting → Result (List Argument) Refusal → Text
value_among s (Err why) = []
value_among s (Ok arguments) = or_empty (value_in s arguments)

-- the last value that the words give to an option
abbrev pub value_given : Setting → List Text → Text
value_given s [] = []
value_given s (name ∷ words) = value_among s (arguments_from 1 None words)

-- the value of -o
abbrev pub output_given : List Text → Text
output_given words = value_given Output words

-- the value of --step
abbrev pub step_given : List Text → Text
step_given words = value_given Step words

-- the name of the input with this number, from 0, among the arguments that were read, empty if there is none
abbrev pub input_among : ℕ → Result (List Argument) Refusal → Text
input_among number (Err why) = []
input_among number (Ok arguments) = get_or (inputs_in arguments) number []

-- the name of the input with this number that the words give
abbrev pub input_given : ℕ → List Text → Text
input_given number [] = []
input_given number (name ∷ words) = input_among number (arguments_from 1 None words)
