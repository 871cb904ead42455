-- The page that arguments ask for
use Rattle.std.specs.Prelude.{List, Option, Some, None, Result, Ok, Err}
use Rattle.mesh_words.specs.declared.command.ViewRequest.{ViewRequest}
use Rattle.mesh_words.specs.declared.faults.Refusal.{Refusal}
use Rattle.mesh_words.specs.declared.names.Setting.TheVariants as setting
use Rattle.mesh_words.specs.declared.arguments.Argument.{Argument}
use Rattle.mesh_words.specs.Names.{Text}
use Rattle.mesh_words.specs.Arguments.{names_in, value_in}
use Rattle.mesh_words.specs.Targets.{view_fault}
use Rattle.mesh_words.specs.Values.{files_of, page_of}

-- the page of these files, or the first refusal: of the files, of options and the page, of a missing name
abbrev pub view_with : Result (List Text) Refusal → Option Refusal → Result Text Refusal → Result ViewRequest Refusal
view_with (Err why) fault output = Err why
view_with (Ok files) (Some why) output = Err why
view_with (Ok files) None (Err why) = Err why
view_with (Ok files) None (Ok output) = Ok (record { output = output; files = files })

-- the page that the arguments ask for, or the first refusal
abbrev pub view_of : List Argument → Result ViewRequest Refusal
view_of arguments =
    view_with (files_of (names_in arguments)) (view_fault arguments)
    (page_of (value_in setting.Output arguments))
