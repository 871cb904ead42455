-- The meshes that arguments ask to put on their grid
use Rattle.std.specs.Prelude.{Bool, List, Option, Some, None, Result, Ok, Err}
use Rattle.std.specs.List.{list_any}
use Rattle.mesh_words.specs.declared.command.SnapRequest.{SnapRequest}
use Rattle.mesh_words.specs.declared.command.WantedStep.{WantedStep}
use Rattle.mesh_words.specs.declared.faults.Refusal.{Refusal}
use Rattle.mesh_words.specs.declared.names.Setting.TheVariants as setting
use Rattle.mesh_words.specs.declared.arguments.Argument.{Argument}
use Rattle.mesh_words.specs.Names.{Text}
use Rattle.mesh_words.specs.Arguments.{is_quiet, names_in, value_in}
use Rattle.mesh_words.specs.Targets.{snap_fault}
use Rattle.mesh_words.specs.Values.{files_of, folder_of, step_of}

-- the request of these values, or the first refusal: of the files, of options and targets, of the folder, of the step
abbrev pub snap_with : Result (List Text) Refusal → Option Refusal → Result Text Refusal →
    Result WantedStep Refusal → Bool → Result SnapRequest Refusal
snap_with (Err why) fault folder step quiet = Err why
snap_with (Ok files) (Some why) folder step quiet = Err why
snap_with (Ok files) None (Err why) step quiet = Err why
snap_with (Ok files) None (Ok folder) (Err why) quiet = Err why
snap_with (Ok files) None (Ok folder) (Ok step) quiet =
    Ok (record { folder = folder; step = step; quiet = quiet; files = files })

-- what the arguments ask for, or the first refusal
abbrev pub snap_of : List Argument → Result SnapRequest Refusal
snap_of arguments =
    snap_with (files_of (names_in arguments)) (snap_fault arguments)
    (folder_of (value_in setting.Folder arguments)) (step_of (value_in setting.Step arguments))
    (list_any is_quiet arguments)
