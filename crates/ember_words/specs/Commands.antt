-- The commands as clap's model sees them: a parser for each, and the rules of its arguments. The words of clap
-- are explained in specs/WordsCommand.antt
use Rattle.std.specs.Prelude.{true, Some, codes, [], ◌∷◌}
use Rattle.clap.specs.Lexer.{usize_max}
use Rattle.clap.specs.Walk.{Rule, Text}
use Rattle.clap.specs.Simple.{App, new_app, new_rule, with_rule}
use Rattle.clap.specs.declared.builder.action.ArgAction.TheVariants.{SetTrue}

-- `--name`, with one value of text
abbrev pub option : Text → Rule
option name = record (new_rule name) { long = Some name }

-- an option with a value, which must be given
abbrev pub required_option : Text → Rule
required_option name = record (new_rule name) { long = Some name; required = true }

-- an option with a value, and the value if it isn't given
abbrev pub option_with_default : Text → Text → Rule
option_with_default name value = record (new_rule name) { long = Some name; defaults = value ∷ [] }

-- an option without a value
abbrev pub flag : Text → Rule
flag name = record (new_rule name) { long = Some name; action = Some SetTrue }

-- one word that isn't an option
abbrev pub one_word : Text → Rule
one_word name = record (new_rule name) { required = true }

-- one or more words that aren't options
abbrev pub several_words : Text → Rule
several_words name = record (new_rule name) {
  required = true;
  range = Some (record { start_inclusive = 1; end_inclusive = usize_max });
}

abbrev pub expr : Rule
expr = required_option (codes "expr")

abbrev pub workers : Rule
workers = option_with_default (codes "workers") (codes "1")

abbrev pub places : Rule
places = option_with_default (codes "places") (codes "0")

abbrev pub file : Rule
file = one_word (codes "file")

abbrev pub files : Rule
files = several_words (codes "files")

-- `faces [--places K] FILE`
abbrev pub faces_app : App
faces_app = with_rule (with_rule (new_app (codes "faces")) places) file

-- `at --point X,Y,Z,W [--expr E] [--places K] FILE...`
abbrev pub at_app : App
at_app =
    with_rule (with_rule (with_rule (with_rule (new_app (codes "at")) (required_option (codes "point")))
    (option (codes "expr"))) places) files

-- `bool --expr E [--workers N] [--places K] [--report] FILE...`
abbrev pub bool_app : App
bool_app =
    with_rule (with_rule (with_rule (with_rule (with_rule (new_app (codes "bool")) expr) workers) places)
    (flag (codes "report"))) files

-- `demo [--workers N] BOXES`
abbrev pub demo_app : App
demo_app = with_rule (with_rule (new_app (codes "demo")) workers) (one_word (codes "boxes"))

-- `voxels --expr E --size S [--workers N] [--places K] FILE...`
abbrev pub voxels_app : App
voxels_app =
    with_rule (with_rule (with_rule (with_rule (with_rule (new_app (codes "voxels")) expr)
    (required_option (codes "size"))) workers) places) files

-- `pairs [--workers N] [--places K] FILE...`
abbrev pub pairs_app : App
pairs_app = with_rule (with_rule (with_rule (new_app (codes "pairs")) workers) places) files

-- `slice --at C FILE`
abbrev pub slice_app : App
slice_app = with_rule (with_rule (new_app (codes "slice")) (required_option (codes "at"))) file
