-- What a call of `ember-mesh` gives
use Rattle.std.specs.Prelude.{◌≡◌, ◌≢◌, ◌⊎◌, Bool, ℕ, ◌+◌, ◌-◌, ◌^◌, min, List, [], All, IsSome, None, false}
use Rattle.std.specs.Prelude.{Vec, unwrap_or}
use Rattle.std.specs.declared.alloc.Global.{Global}
use Rattle.ember_call.specs.declared.outcome.Outcome.{Outcome}
use Rattle.ember_call.specs.Calls.{shelf_over, sink_with}
use Rattle.ember_call.specs.Lent.{contents_of}
use Rattle.ember_call.specs.Outcomes.{LacksMemory, LacksText}
use Rattle.ember_call.specs.Taken.{GrownState, HaveOwnNames, TakenState, held_by}
use Rattle.ember_io.specs.Files.{first_of}
use Rattle.mesh_boolean.specs.declared.output.SolidFile.{SolidFile}
use Rattle.mesh_outside.specs.declared.target.several.NamedFile.{NamedFile}
use Rattle.mesh_outside.specs.Target.Several.{NamedBytes, PutsEach, names_and_bytes}
use Rattle.mesh_refusal.specs.Numbers.{number_of}
use Rattle.mesh_report.specs.Said.{solid_report}
use Rattle.mesh_refusal.specs.declared.status.Status.{Status}
use Rattle.mesh_refusal.specs.declared.status.Status.TheVariants.{Done, ReadFault, FileRefused, NotAScene}
use Rattle.mesh_refusal.specs.declared.status.Status.TheVariants.{NotClosed, LongFile}
use Rattle.mesh_run.specs.Calls.{TargetCall}
use Rattle.mesh_run.specs.Memory.{hides_memory}
use Rattle.mesh_run.specs.Outputs.{IsOutputFor}
use Rattle.mesh_run.specs.Serves.{IsOutcome}
use Rattle.mesh_run.specs.Writes.{AreSolidFiles, sent_to}
use Rattle.mesh_words.specs.Arguments.{words_ask_json}
use Rattle.mesh_words.specs.Commands.{command_of}
use Rattle.mesh_words.specs.declared.command.Request.{Request}

-- ---- the place of a fault
-- the file at fault, from 1; 0 if none is known to be
abbrev pub mesh_file_of : Status → ℕ
mesh_file_of (ReadFault i kind) = i
mesh_file_of NotAScene = 1
mesh_file_of (FileRefused i reason) = i
mesh_file_of (NotClosed hole format) = min (hole.file + 1) (2 ^ 32 - 1)
mesh_file_of (LongFile i) = i
mesh_file_of _ = 0

-- the line, facet or face in that file; 0 if it is known only to the line on standard error, or not at all
abbrev pub mesh_place_of : Status → ℕ
mesh_place_of (NotClosed hole format) = hole.place
mesh_place_of _ = 0

-- ---- what a call saw
-- a target that had no file, took these, and never failed
abbrev pub target_with : List NamedBytes → TargetCall
target_with files = record {
  held = held_by [];
  held_after = held_by files;
  begun = None;
  faults = 0;
  faults_after = 0;
}

-- ---- the outcome
-- `ember-mesh` ends with this status over these files, says this and writes that: the outcome of mesh_run
pub record MeshEndsWith (words : List (List ℕ)) (files : List (List ℕ × List ℕ)) (status : Status)
    (said : List ℕ) (out : List ℕ) (written : List NamedBytes) : Type 0 where
  pub faults : ℕ
  pub fault_at : ℕ
  pub out_flushed : ℕ
  pub outcome : IsOutcome (words_ask_json words) words (command_of words) (shelf_over files faults fault_at)
      (target_with written) (sink_with out out_flushed) status said
  pub memory : hides_memory status ≡ false

-- it does what the words ask for
pub record IsMeshDone (words : List (List ℕ)) (files : List (List ℕ × List ℕ)) (outcome : Outcome) : Type 0 where
  pub number : outcome.status ≡ 0
  pub file : outcome.file ≡ 0
  pub place : outcome.place ≡ 0
  pub ends : MeshEndsWith words files Done outcome.err.items outcome.out.items (names_and_bytes outcome.files.items)
  pub own_names : HaveOwnNames (names_and_bytes outcome.files.items)

-- the outcome of a status that isn't Done: nothing but what is said
pub record IsRefusal (status : Status) (said : List ℕ) (outcome : Outcome) : Type 0 where
  pub number : outcome.status ≡ number_of status
  pub file : outcome.file ≡ mesh_file_of status
  pub place : outcome.place ≡ mesh_place_of status
  pub out : outcome.out.items ≡ []
  pub err : outcome.err.items ≡ said
  pub files : outcome.files.items ≡ []

-- the outcome of Done: all of this
pub record IsWhole (out err : Vec ℕ Global) (files : Vec NamedFile Global) (outcome : Outcome) : Type 0 where
  pub number : outcome.status ≡ 0
  pub file : outcome.file ≡ 0
  pub place : outcome.place ≡ 0
  pub out_is : outcome.out ≡ out
  pub err_is : outcome.err ≡ err
  pub files_are : outcome.files ≡ files

-- the outcome of either
abbrev pub IsOutcomeWith : Status → Vec ℕ Global → Vec ℕ Global → Vec NamedFile Global → Outcome → Type 0
IsOutcomeWith status out err files outcome =
    ((status ≡ Done) × IsWhole out err files outcome) ⊎ ((status ≢ Done) × IsRefusal status err.items outcome)

-- the devices never failed
pub record HaveNoFault (target : TakenState) (out err : GrownState) : Type 0 where
  pub of_target : target.faults ≡ 0
  pub of_out : out.faults ≡ 0
  pub of_err : err.faults ≡ 0

-- the outcome of this status over what devices took that never failed
pub record IsTakenOver (status : Status) (target : TakenState) (out err : GrownState) (outcome : Outcome) : Type 0 where
  pub no_fault : HaveNoFault target out err
  pub taken : Vec ℕ Global
  pub taken_is : taken.items ≡ out.bytes
  pub said : Vec ℕ Global
  pub said_is : said.items ≡ err.bytes
  pub written : Vec NamedFile Global
  pub written_is : names_and_bytes written.items ≡ target.files
  pub own_names : HaveOwnNames target.files
  pub outcome_is : IsOutcomeWith status taken said written outcome

-- the outcome of this status over what devices took
abbrev pub IsOutcomeOver : Status → TakenState → GrownState → GrownState → Outcome → Type 0
IsOutcomeOver status target out err outcome = IsTakenOver status target out err outcome ⊎ LacksMemory outcome

-- it says why it doesn't; the caller gets nothing of what was written until then
pub record IsMeshRefused (words : List (List ℕ)) (files : List (List ℕ × List ℕ)) (outcome : Outcome) : Type 0 where
  pub status : Status
  pub not_done : status ≢ Done
  pub refusal : IsRefusal status outcome.err.items outcome
  pub begun_out : List ℕ
  pub begun_files : List NamedBytes
  pub ends : MeshEndsWith words files status outcome.err.items begun_out begun_files

-- the outcome of words over files
abbrev pub IsMeshOutcome : List (List ℕ) → List (List ℕ × List ℕ) → Outcome → Type 0
IsMeshOutcome words files outcome = IsMeshDone words files outcome ⊎
    (IsMeshRefused words files outcome ⊎ (LacksMemory outcome ⊎ LacksText words outcome))

-- ---- a Boolean
-- all files of the request are there; the files of the solid that it asks for are written, and nothing else; and
-- standard error has the report, as lines or as an object
pub record HasSolid (json : Bool) (request : Request) (files : List (List ℕ × List ℕ))
    (outcome : Outcome) : Type 0 where
  pub there : All (λ name. IsSome (first_of files name)) request.files
  pub output : SolidFile
  pub is_output : IsOutputFor request (contents_of files) output
  pub written : List NamedBytes
  pub are_files : AreSolidFiles request output written
  pub all : PutsEach written (held_by []) (held_by (names_and_bytes outcome.files.items))
  pub own_names : HaveOwnNames (names_and_bytes outcome.files.items)
  -- standard output has the mesh, if it goes there, and nothing else
  pub out : outcome.out.items ≡ unwrap_or (sent_to request.output output.written.bytes.items) []
  pub report : outcome.err.items ≡ solid_report json request output
