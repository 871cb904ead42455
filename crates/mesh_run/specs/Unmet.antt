-- How a call ends, if not all files are written
use Rattle.std.specs.Prelude.{◌≡◌, ◌≢◌, ◌⊎◌, ⊤, ℕ, List, false, string_bytes}
use Rattle.mesh_outside.specs.Target.Several.{NamedBytes, PutsBefore}
use Rattle.mesh_outside.specs.declared.target.target.WriteEnd.{WriteEnd}
use Rattle.mesh_outside.specs.declared.target.target.WriteEnd.TheVariants as write
use Rattle.ember_io.specs.Calls.{SinkCall}
use Rattle.mesh_run.specs.Calls.{TargetCall, HoldsAll}
use Rattle.mesh_run.specs.Memory.{hides_memory}
use Rattle.mesh_refusal.specs.declared.status.Status.{Status}
use Rattle.mesh_refusal.specs.declared.status.Status.TheVariants.{Done, WriteFault, NotWritten, OutOfMemory}

-- ---- writing
-- the status of a file of this name that isn't written for this reason: want of memory is its own status, and may come
-- with any other
abbrev pub IsUnwrittenStatus : List ℕ → WriteEnd → Status → Type 0
IsUnwrittenStatus name why (NotWritten said) = (string_bytes said ≡ name) × (why ≢ write.OutOfMemory)
IsUnwrittenStatus name why OutOfMemory = ⊤
IsUnwrittenStatus name why status = ⊥

-- why these files aren't all written
abbrev pub IsWriteStop : List NamedBytes → TargetCall → Status → Type 0
IsWriteStop files target (NotWritten name) =
    (why : WriteEnd) × (why ≢ write.OutOfMemory) ×
    PutsBefore files (string_bytes name) why target.held target.held_after target.faults target.faults_after
IsWriteStop files target OutOfMemory =
    (name : List ℕ) × (why : WriteEnd) ×
    PutsBefore files name why target.held target.held_after target.faults target.faults_after
IsWriteStop files target status = ⊥

-- ---- requests
-- there are files for the request; those before the one of this name are written, and that one isn't, for this reason
pub record IsCutShort (AreFiles : List NamedBytes → Type 0) (target : TargetCall) (name : List ℕ) (why : WriteEnd) :
    Type 0 where
  pub files : List NamedBytes
  pub are_files : AreFiles files
  pub before : PutsBefore files name why target.held target.held_after target.faults target.faults_after

-- a file isn't written, and not for want of memory; or memory is short, before the first file is written or in between;
-- or there are no files for the request, for this cause, and each name holds what it held
abbrev pub IsUnmet : (Status → Type 0) → (List NamedBytes → Type 0) → TargetCall → Status → Type 0
IsUnmet IsCause AreFiles target (NotWritten name) =
    (why : WriteEnd) × (why ≢ write.OutOfMemory) × IsCutShort AreFiles target (string_bytes name) why
IsUnmet IsCause AreFiles target OutOfMemory =
    HoldsAll target ⊎ ((name : List ℕ) × (why : WriteEnd) × IsCutShort AreFiles target name why)
IsUnmet IsCause AreFiles target status = IsCause status × HoldsAll target × (hides_memory status ≡ false)

-- the status, and what err takes: this if the files are written, or what is said of the status
abbrev pub EndsAs : (List ℕ → Type 0) → (Status → Type 0) → (Status → List ℕ) → Status → List ℕ → Type 0
EndsAs Writes Unmet said Done text = Writes text
EndsAs Writes Unmet said status text = Unmet status × (text ≡ said status)

-- the same where a mesh may go to out: if all files are written, out may still fail; otherwise it takes nothing
abbrev pub EndsOn : SinkCall → (Status → List ℕ → Type 0) → (Status → Type 0) → (Status → List ℕ) → Status → List ℕ →
    Type 0
EndsOn out Writes Unmet said Done text = Writes Done text
EndsOn out Writes Unmet said WriteFault text = Writes WriteFault text
EndsOn out Writes Unmet said status text = Unmet status × (text ≡ said status) × (out.taken_after ≡ out.taken)
