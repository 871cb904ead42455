-- What a call of `ember` gives
use Rattle.std.specs.Prelude.{◌≡◌, ◌⊎◌, ℕ, List, [], Some}
use Rattle.ember_call.specs.declared.outcome.Outcome.{Outcome}
use Rattle.ember_call.specs.Lent.{contents_of}
use Rattle.ember_call.specs.Outcomes.{LacksMemory, LacksText}
use Rattle.ember_call.specs.Taken.{GrownState}
use Rattle.ember_io.specs.declared.shelf.FaultKind.TheVariants.{NotFound}
use Rattle.ember_obj.specs.declared.fault.ObjFault.{ObjFault}
use Rattle.ember_obj.specs.declared.fault.ObjFault.TheVariants as obj
use Rattle.ember_run.specs.Serves.{Serves}
use Rattle.ember_io.specs.Calls.{ShelfCall, SinkCall}
use Rattle.ember_verdict.specs.Lines.{number_of}
use Rattle.ember_verdict.specs.declared.status.FaceFault.TheVariants.{Endless}
use Rattle.ember_verdict.specs.declared.status.LimitKind.TheVariants.{Bytes}
use Rattle.ember_verdict.specs.declared.status.Status.{Status}
use Rattle.ember_verdict.specs.declared.status.Status.TheVariants.{ReadFault, ObjRefused, MeshRefused, Limit}
use Rattle.ember_verdict.specs.declared.status.Status.TheVariants.{FaceRefused}
use Rattle.ember_words.specs.WordsCommand.{command_of}

-- ---- the place of a fault
-- the file at fault, from 1; 0 if none is
abbrev pub file_of : Status → ℕ
file_of (ReadFault i) = i
file_of (ObjRefused i fault) = i
file_of (MeshRefused i fault) = i
file_of (Limit (Bytes i) count) = i
file_of (FaceRefused fault) = 1
file_of _ = 0

-- the line of a fault in an OBJ file; 0 if it has none
abbrev pub line_of_fault : ObjFault → ℕ
line_of_fault (obj.Word line) = line
line_of_fault (obj.Coordinate line fault) = line
line_of_fault (obj.Index line) = line
line_of_fault (obj.FewCorners line) = line
line_of_fault (obj.LongLine line) = line
line_of_fault (obj.TooMany line) = line
line_of_fault obj.OutOfMemory = 0

-- the line or the face in that file; 0 if none is known
abbrev pub place_of : Status → ℕ
place_of (ObjRefused i fault) = line_of_fault fault
place_of (FaceRefused (Endless n)) = n
place_of _ = 0

-- ---- what a call saw
-- these files: as often as this, no file had a name that was asked for, the last time under this number
abbrev pub shelf_over : List (List ℕ × List ℕ) → ℕ → ℕ → ShelfCall
shelf_over files faults fault_at = record {
  told = contents_of files;
  told_after = contents_of files;
  faults = 0;
  faults_after = faults;
  fault_at = fault_at;
  fault_kind = NotFound;
}

-- a stream that took these bytes, and never failed
abbrev pub sink_with : List ℕ → ℕ → SinkCall
sink_with bytes flushed = record {
  taken = Some [];
  taken_after = Some bytes;
  flushed_after = flushed;
  faults = 0;
  faults_after = 0;
}

-- ---- the outcome
-- `ember` ends with this status over these files, and `Serves` says what it then wrote
pub record EndsWith (words : List (List ℕ)) (files : List (List ℕ × List ℕ)) (status : Status)
    (outcome : Outcome) : Type 0 where
  pub number : outcome.status ≡ number_of status
  pub file : outcome.file ≡ file_of status
  pub place : outcome.place ≡ place_of status
  pub faults : ℕ
  pub fault_at : ℕ
  pub out_flushed : ℕ
  pub err_flushed : ℕ
  pub serves : Serves (command_of words) (shelf_over files faults fault_at)
      (sink_with outcome.out.items out_flushed) (sink_with outcome.err.items err_flushed) status

-- the outcome of this status, if neither stream lacked memory for these bytes
pub record IsWhole (status : Status) (out err : GrownState) (outcome : Outcome) : Type 0 where
  pub no_fault : out.faults ≡ 0
  pub none_of_err : err.faults ≡ 0
  pub number : outcome.status ≡ number_of status
  pub file : outcome.file ≡ file_of status
  pub place : outcome.place ≡ place_of status
  pub taken : outcome.out.items ≡ out.bytes
  pub said : outcome.err.items ≡ err.bytes

abbrev pub IsOutcomeWith : Status → GrownState → GrownState → Outcome → Type 0
IsOutcomeWith status out err outcome = IsWhole status out err outcome ⊎ LacksMemory outcome

-- the outcome of words over files
abbrev pub IsOutcome : List (List ℕ) → List (List ℕ × List ℕ) → Outcome → Type 0
IsOutcome words files outcome =
    ((status : Status) × EndsWith words files status outcome) ⊎ (LacksMemory outcome ⊎ LacksText words outcome)
