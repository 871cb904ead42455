-- The document whose mesh arguments ask for
use Rattle.std.specs.Prelude.{ℕ, Bool, List, [], ◌∷◌, Option, Some, None, Result, Ok, Err}
use Rattle.std.specs.List.{list_any}
use Rattle.mesh_words.specs.declared.command.ExportRequest.{ExportRequest}
use Rattle.mesh_words.specs.declared.command.Destination.{Destination}
use Rattle.mesh_words.specs.declared.command.OutputFormat.{OutputFormat}
use Rattle.mesh_words.specs.declared.faults.Refusal.{Refusal}
use Rattle.mesh_words.specs.declared.faults.Refusal.TheVariants.{NotOneDocument}
use Rattle.mesh_words.specs.declared.names.Setting.TheVariants as setting
use Rattle.mesh_words.specs.declared.arguments.Argument.{Argument}
use Rattle.mesh_words.specs.Names.{Text}
use Rattle.mesh_words.specs.Arguments.{is_quiet, names_in, value_in}
use Rattle.mesh_words.specs.Targets.{export_fault}
use Rattle.mesh_words.specs.Values.{digits_of, format_from, output_of}

-- the only name
abbrev pub document_of : List Text → Result Text Refusal
document_of [] = Err NotOneDocument
document_of (name ∷ []) = Ok name
document_of (name ∷ second ∷ more) = Err NotOneDocument

-- the request of these values, or the first refusal: of the document, of options and the page, of the output, of the
-- digits
abbrev pub export_with : Result Text Refusal → Option Refusal → Result Destination Refusal →
    Result OutputFormat Refusal → Result (Option ℕ) Refusal → Option Text → Option Text → Bool →
    Result ExportRequest Refusal
export_with (Err why) fault o m d scene view quiet = Err why
export_with (Ok document) (Some why) o m d scene view quiet = Err why
export_with (Ok document) None (Err why) m d scene view quiet = Err why
export_with (Ok document) None (Ok o) (Err why) d scene view quiet = Err why
export_with (Ok document) None (Ok o) (Ok m) (Err why) scene view quiet = Err why
export_with (Ok document) None (Ok o) (Ok m) (Ok d) scene view quiet =
    Ok (record { document = document; scene = scene; output = o; format = m; digits = d; view = view; quiet = quiet })

-- what the arguments ask for, or the first refusal
abbrev pub export_of : List Argument → Result ExportRequest Refusal
export_of arguments =
    export_with (document_of (names_in arguments)) (export_fault arguments)
    (output_of (value_in setting.Output arguments))
    (format_from (output_of (value_in setting.Output arguments)) (value_in setting.Format arguments))
    (digits_of (value_in setting.Digits arguments)) (value_in setting.Scene arguments) (value_in setting.Page arguments)
    (list_any is_quiet arguments)
