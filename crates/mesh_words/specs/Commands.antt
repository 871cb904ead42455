-- What command the words give
use Rattle.std.specs.Prelude.{◌≡◌, ◌≤◌, ⊤, ℕ, Bool, true, false, List, [], ◌∷◌, length, Option, Some}
use Rattle.std.specs.Prelude.{None, Result, Ok, Err, IfSome, if◌then◌else◌}
use Rattle.std.specs.List.{list_any}
use Rattle.std.specs.Int.{IsInRange}
use Rattle.mesh_number.specs.Number.Texts.{value_of_text}
use Rattle.mesh_words.specs.declared.command.Command.{Command}
use Rattle.mesh_words.specs.declared.command.Command.TheVariants as command
use Rattle.mesh_words.specs.declared.command.Request.{Request}
use Rattle.mesh_words.specs.declared.command.SnapRequest.{SnapRequest}
use Rattle.mesh_words.specs.declared.command.ExportRequest.{ExportRequest}
use Rattle.mesh_words.specs.declared.command.ViewRequest.{ViewRequest}
use Rattle.mesh_words.specs.declared.command.Destination.{Destination}
use Rattle.mesh_words.specs.declared.command.OutputFormat.{OutputFormat}
use Rattle.mesh_words.specs.declared.command.WantedStep.{WantedStep}
use Rattle.mesh_words.specs.declared.command.WantedStep.TheVariants as step
use Rattle.mesh_words.specs.declared.faults.Refusal.{Refusal}
use Rattle.mesh_words.specs.declared.faults.Refusal.TheVariants.{NoCommand, UnknownCommand, UnknownOption}
use Rattle.mesh_words.specs.declared.faults.WordsFault.{WordsFault}
use Rattle.mesh_words.specs.declared.faults.WordsFault.TheVariants.{Refused, OutOfMemory}
use Rattle.mesh_words.specs.declared.arguments.Argument.{Argument}
use Rattle.mesh_words.specs.declared.names.Operation.{Operation}
use Rattle.mesh_words.specs.declared.names.Setting.TheVariants as setting
use Rattle.mesh_words.specs.declared.names.Verb.{Verb}
use Rattle.mesh_words.specs.declared.names.Verb.TheVariants as verb
use Rattle.mesh_words.specs.Names.{Text, operator_of, verb_of}
use Rattle.mesh_words.specs.Arguments.{asks_help, is_help, is_quiet, arguments_from, names_in, value_in, values_in}
use Rattle.mesh_words.specs.Targets.{boolean_fault}
use Rattle.mesh_placing.specs.Files.{first_place_fault}
use Rattle.mesh_words.specs.Placings.{places_of, turns_of}
use Rattle.mesh_words.specs.Plain.{first_option, plain_names}
use Rattle.mesh_words.specs.Values.{digits_of, expression_of, files_of, format_from, is_above_zero}
use Rattle.mesh_words.specs.Values.{output_of, step_of, workers_of}
use Rattle.mesh_words.specs.Views.{view_of}
use Rattle.mesh_words.specs.Snaps.{snap_of}
use Rattle.mesh_words.specs.Exports.{export_of}

-- the result is the value or the refusal, or memory ran out
abbrev pub Reads : {T : Type 0} → Result T Refusal → Result T WordsFault → Type 0
Reads value (Ok x) = value ≡ Ok x
Reads value (Err (Refused why)) = value ≡ Err why
Reads value (Err OutOfMemory) = ⊤

-- ---- a Boolean
-- the request of these values, or the first refusal among them
abbrev pub request_of_values : List Text → Bool → Option Text → Option Text → Result Text Refusal →
    Result Destination Refusal → Result OutputFormat Refusal → Result WantedStep Refusal → Result ℕ Refusal →
    Result (Option ℕ) Refusal → Result (List Text) Refusal → Result (List Text) Refusal → Result Request Refusal
request_of_values files quiet view keep (Err why) o m s w d p t = Err why
request_of_values files quiet view keep (Ok e) (Err why) m s w d p t = Err why
request_of_values files quiet view keep (Ok e) (Ok o) (Err why) s w d p t = Err why
request_of_values files quiet view keep (Ok e) (Ok o) (Ok m) (Err why) w d p t = Err why
request_of_values files quiet view keep (Ok e) (Ok o) (Ok m) (Ok s) (Err why) d p t = Err why
request_of_values files quiet view keep (Ok e) (Ok o) (Ok m) (Ok s) (Ok w) (Err why) p t = Err why
request_of_values files quiet view keep (Ok e) (Ok o) (Ok m) (Ok s) (Ok w) (Ok d) (Err why) t = Err why
request_of_values files quiet view keep (Ok e) (Ok o) (Ok m) (Ok s) (Ok w) (Ok d) (Ok p) (Err why) = Err why
request_of_values files quiet view keep (Ok e) (Ok o) (Ok m) (Ok s) (Ok w) (Ok d) (Ok p) (Ok t) =
    Ok
    (record {
      expression = e;
      output = o;
      format = m;
      step = s;
      workers = w;
      quiet = quiet;
      digits = d;
      files = files;
      view = view;
      keep = keep;
      places = p;
      turns = t;
    })

-- options and targets are refused before the other values are read
abbrev pub request_with : Operation → List Argument → Result (List Text) Refusal → Option Refusal →
    Result Request Refusal
request_with operation arguments (Err why) fault = Err why
request_with operation arguments (Ok files) (Some why) = Err why
request_with operation arguments (Ok files) None =
    request_of_values files (list_any is_quiet arguments)
    (value_in setting.Page arguments) (value_in setting.Keep arguments)
    (expression_of (operator_of operation) (length files) (value_in setting.Expression arguments))
    (output_of (value_in setting.Output arguments))
    (format_from (output_of (value_in setting.Output arguments)) (value_in setting.Format arguments))
    (step_of (value_in setting.Step arguments)) (workers_of (value_in setting.Workers arguments))
    (digits_of (value_in setting.Digits arguments))
    (places_of (length files) (values_in setting.Place arguments))
    (turns_of (length files) (values_in setting.Turn arguments))

-- the Boolean that the arguments ask for, or the first refusal
abbrev pub request_of : Operation → List Argument → Result Request Refusal
request_of operation arguments =
    request_with operation arguments (files_of (names_in arguments)) (boolean_fault arguments)

-- ---- a command
abbrev pub as_command : Result Request Refusal → Result Command Refusal
as_command (Err why) = Err why
as_command (Ok request) = Ok (command.Boole request)

-- a Boolean, unless the arguments ask for help
abbrev pub command_with : Operation → Result (List Argument) Refusal → Result Command Refusal
command_with operation (Err why) = Err why
command_with operation (Ok arguments) =
    if list_any asks_help arguments then Ok command.Help else as_command (request_of operation arguments)

-- help, or what is said of the meshes with these names; but first an option is refused, by its number
abbrev pub info_with : Option ℕ → Bool → Result (List Text) Refusal → Result Command Refusal
info_with (Some number) help files = Err (UnknownOption number)
info_with None true files = Ok command.Help
info_with None false (Err why) = Err why
info_with None false (Ok files) = Ok (command.Info files)

abbrev pub info_of : List Text → Result Command Refusal
info_of words = info_with (first_option 1 words) (list_any is_help words) (files_of (plain_names words))

abbrev pub as_snap : Result SnapRequest Refusal → Result Command Refusal
as_snap (Err why) = Err why
as_snap (Ok request) = Ok (command.Snap request)

-- meshes on their grid, unless the arguments ask for help
abbrev pub snap_command : Result (List Argument) Refusal → Result Command Refusal
snap_command (Err why) = Err why
snap_command (Ok arguments) = if list_any asks_help arguments then Ok command.Help else as_snap (snap_of arguments)

abbrev pub as_export : Result ExportRequest Refusal → Result Command Refusal
as_export (Err why) = Err why
as_export (Ok request) = Ok (command.Export request)

-- a document's mesh, unless the arguments ask for help
abbrev pub export_command : Result (List Argument) Refusal → Result Command Refusal
export_command (Err why) = Err why
export_command (Ok arguments) =
    if list_any asks_help arguments then Ok command.Help else as_export (export_of arguments)

abbrev pub as_view : Result ViewRequest Refusal → Result Command Refusal
as_view (Err why) = Err why
as_view (Ok request) = Ok (command.View request)

-- a page that shows meshes, unless the arguments ask for help
abbrev pub view_command : Result (List Argument) Refusal → Result Command Refusal
view_command (Err why) = Err why
view_command (Ok arguments) = if list_any asks_help arguments then Ok command.Help else as_view (view_of arguments)

-- the words after `help` and `--version` mean nothing
abbrev pub command_by : Option Verb → List Text → Result Command Refusal
command_by None words = Err UnknownCommand
command_by (Some verb.Snap) words = snap_command (arguments_from 1 None words)
command_by (Some verb.Export) words = export_command (arguments_from 1 None words)
command_by (Some verb.Info) words = info_of words
command_by (Some verb.View) words = view_command (arguments_from 1 None words)
command_by (Some verb.Help) words = Ok command.Help
command_by (Some verb.Version) words = Ok command.Version
command_by (Some (verb.Compute operation)) words = command_with operation (arguments_from 1 None words)

-- the command that the words give, or why they are refused
abbrev pub command_of : List Text → Result Command Refusal
command_of [] = Err NoCommand
command_of (name ∷ words) = command_by (verb_of name) words

-- ---- what a command that was read keeps
-- a decimal is above 0
abbrev pub IsValidStep : WantedStep → Type 0
IsValidStep step.Nice = ⊤
IsValidStep step.Finest = ⊤
IsValidStep (step.Decimal text) = is_above_zero (value_of_text text) ≡ true

-- the numbers are within their limits, there are 1 to 64 files, and each value of `--place` places one of them
pub record IsWithinLimits (request : Request) : Type 0 where
  pub step : IsValidStep request.step
  pub workers : IsInRange 1 64 request.workers
  pub digits : IfSome request.digits (λ n. n ≤ 17)
  pub files : IsInRange 1 64 (length request.files)
  pub places : first_place_fault (length request.files) request.places ≡ None

-- the step is above 0 if it is a number, and there are 1 to 64 files
pub record IsWithinSnapLimits (request : SnapRequest) : Type 0 where
  pub step : IsValidStep request.step
  pub files : IsInRange 1 64 (length request.files)

-- all values of the command are within their limits
abbrev pub HasLimits : Command → Type 0
HasLimits (command.Boole request) = IsWithinLimits request
HasLimits (command.Snap request) = IsWithinSnapLimits request
HasLimits (command.Export request) = IfSome request.digits (λ n. n ≤ 17)
HasLimits (command.Info files) = IsInRange 1 64 (length files)
HasLimits (command.View request) = IsInRange 1 64 (length request.files)
HasLimits command.Help = ⊤
HasLimits command.Version = ⊤
