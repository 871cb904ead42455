-- What a status, and the bytes that were written, say of the verdict
use Rattle.std.specs.Prelude.{◌≡◌, ⊤, Bool, true, false, ℕ, List, None, Some}
use Rattle.std.specs.declared.option.Option.{Option}
use Rattle.std.specs.Io.KnownBytes.{Appends}
use Rattle.ember_io.specs.Sinks.{AppendsPrefix}
use Rattle.ember_expr.specs.declared.fault.ExprFault.TheVariants as expr
use Rattle.ember_mesh.specs.declared.fault.MeshFault.TheVariants as mesh
use Rattle.ember_obj.specs.declared.fault.ObjFault.TheVariants as obj
use Rattle.ember_verdict.specs.Outputs.{IsOutput}
use Rattle.ember_verdict.specs.Slices.{IsSlice, IsSliceRefusal, IsSliceable}
use Rattle.ember_verdict.specs.Verdict.{Verdict, Unknown, Refused, Writes, Slices, Refuses}
use Rattle.ember_verdict.specs.declared.status.LimitKind.TheVariants.{Bytes, Triangles}
use Rattle.ember_verdict.specs.declared.status.Status.{Status}
use Rattle.ember_verdict.specs.declared.status.Status.TheVariants.{Done, Words, ReadFault, WriteFault}
use Rattle.ember_verdict.specs.declared.status.Status.TheVariants.{ObjRefused, MeshRefused, ExprRefused}
use Rattle.ember_verdict.specs.declared.status.Status.TheVariants.{Unbounded, Limit, NotClear}
use Rattle.ember_verdict.specs.declared.status.Status.TheVariants.{FaceRefused, OutOfMemory}

-- the statuses that a verdict may give
abbrev pub is_refusal : Status → Bool
is_refusal Done = false
is_refusal Words = true
is_refusal (ReadFault i) = false
is_refusal WriteFault = false
is_refusal (ObjRefused i fault) = true
is_refusal (MeshRefused i fault) = true
is_refusal (ExprRefused fault) = true
is_refusal Unbounded = true
is_refusal (Limit kind count) = true
is_refusal NotClear = true
is_refusal (FaceRefused fault) = true
is_refusal OutOfMemory = false

-- the refusals that depend on the words alone: no file is read before them
abbrev pub is_before_files : Status → Bool
is_before_files Done = false
is_before_files Words = true
is_before_files (ReadFault i) = false
is_before_files WriteFault = false
is_before_files (ObjRefused i fault) = false
is_before_files (MeshRefused i fault) = false
is_before_files (ExprRefused fault) = true
is_before_files Unbounded = true
is_before_files (Limit kind count) = false
is_before_files NotClear = false
is_before_files (FaceRefused fault) = false
is_before_files OutOfMemory = false

-- the file, from 1, whose contents are refused
abbrev pub refused_file : Status → Option ℕ
refused_file Done = None
refused_file Words = None
refused_file (ReadFault i) = None
refused_file WriteFault = None
refused_file (ObjRefused i fault) = Some i
refused_file (MeshRefused i fault) = Some i
refused_file (ExprRefused fault) = None
refused_file Unbounded = None
refused_file (Limit (Bytes i) count) = Some i
refused_file (Limit Triangles count) = None
refused_file NotClear = None
refused_file (FaceRefused fault) = Some 1
refused_file OutOfMemory = None

-- whether out-of-memory is hidden in another status
abbrev pub hides_memory : Status → Bool
hides_memory (ObjRefused i obj.OutOfMemory) = true
hides_memory (MeshRefused i mesh.OutOfMemory) = true
hides_memory (ExprRefused expr.OutOfMemory) = true
hides_memory _ = false

-- ---- what is so of a verdict. A name that ends in `IfTold` says nothing of an unknown one; without the ending it also
-- says that the verdict is told
-- the verdict, if told, is this refusal
abbrev pub IsRefusalIfTold : Status → Verdict → Type 0
IsRefusalIfTold status Unknown = ⊤
IsRefusalIfTold status (Refused refusal) = refusal ≡ status
IsRefusalIfTold status (Writes output) = ⊥
IsRefusalIfTold status (Slices at bytes) = IsSliceRefusal at bytes status

-- the verdict is told, and is this refusal
abbrev pub IsRefusal : Status → Verdict → Type 0
IsRefusal status Unknown = ⊥
IsRefusal status (Refused refusal) = refusal ≡ status
IsRefusal status (Writes output) = ⊥
IsRefusal status (Slices at bytes) = IsSliceRefusal at bytes status

-- the status, if it is a refusal, is that of the verdict
abbrev pub RefusesOnlyAs : Verdict → Status → Type 0
RefusesOnlyAs verdict status = is_refusal status ≡ true → IsRefusal status verdict

-- the status, if it is a refusal, is that of the step, whatever would be done next
abbrev pub RefusesOnlyBy : {A : Type 0} → ((A → Verdict) → Verdict) → Status → Type 0
RefusesOnlyBy {A} step status = is_refusal status ≡ true → Refuses step status

-- the verdict, if told, is an output, and these are its bytes
abbrev pub IsTextIfTold : Verdict → List ℕ → Type 0
IsTextIfTold Unknown bytes = ⊤
IsTextIfTold (Refused refusal) bytes = ⊥
IsTextIfTold (Writes output) bytes = IsOutput output bytes
IsTextIfTold (Slices at file) bytes = IsSlice at file bytes

-- the verdict is told, and is an output with these bytes
abbrev pub IsText : Verdict → List ℕ → Type 0
IsText Unknown bytes = ⊥
IsText (Refused refusal) bytes = ⊥
IsText (Writes output) bytes = IsOutput output bytes
IsText (Slices at file) bytes = IsSlice at file bytes

-- the verdict is told, and is an output
abbrev pub HasOutput : Verdict → Type 0
HasOutput Unknown = ⊥
HasOutput (Refused refusal) = ⊥
HasOutput (Writes output) = ⊤
HasOutput (Slices at bytes) = IsSliceable at bytes

-- the verdict, if told, is an output, and it was written
abbrev pub IsWrittenIfTold : Verdict → Option (List ℕ) → Option (List ℕ) → Type 0
IsWrittenIfTold verdict old new = (bytes : List ℕ) × IsTextIfTold verdict bytes × Appends old new bytes

-- the verdict is told, and is an output that was written
abbrev pub IsWritten : Verdict → Option (List ℕ) → Option (List ℕ) → Type 0
IsWritten verdict old new = (bytes : List ℕ) × IsText verdict bytes × Appends old new bytes

-- the verdict, if told, is an output, and a prefix of it was written
abbrev pub IsBegunIfTold : Verdict → Option (List ℕ) → Option (List ℕ) → Type 0
IsBegunIfTold verdict old new = (bytes : List ℕ) × IsTextIfTold verdict bytes × AppendsPrefix old new bytes

-- the verdict is told, and is an output of which a prefix was written
abbrev pub IsBegun : Verdict → Option (List ℕ) → Option (List ℕ) → Type 0
IsBegun verdict old new = (bytes : List ℕ) × IsText verdict bytes × AppendsPrefix old new bytes
