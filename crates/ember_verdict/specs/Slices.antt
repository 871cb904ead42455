-- What slicing the bytes of a file gives
use Rattle.std.specs.Prelude.{ℕ, ℤ, List}
use Rattle.ember_model.specs.declared.face.Face.{Face}
use Rattle.ember_model.specs.FaceFiles.{IsFaceFile}
use Rattle.ember_slice.specs.Segments.{IsFirstEndless, IsSliceText}
use Rattle.ember_verdict.specs.declared.status.FaceFault.{FaceFault}
use Rattle.ember_verdict.specs.declared.status.FaceFault.TheVariants.{Form, Endless}
use Rattle.ember_verdict.specs.declared.status.Status.{Status}
use Rattle.ember_verdict.specs.declared.status.Status.TheVariants.{FaceRefused}

-- the text of the segments of the file's faces
abbrev pub IsSlice : ℤ → List ℕ → List ℕ → Type 0
IsSlice at bytes text = (faces : List Face) × IsFaceFile bytes faces × IsSliceText faces at text

-- no face of the file is endless
abbrev pub IsSliceable : ℤ → List ℕ → Type 0
IsSliceable at bytes = (faces : List Face) × IsFaceFile bytes faces × ((n : ℕ) → IsFirstEndless faces at n → ⊥)

-- the fault of the file: it isn't a face file, or this face is the first endless one
abbrev pub IsFaceFault : ℤ → List ℕ → FaceFault → Type 0
IsFaceFault at bytes Form = (faces : List Face) → IsFaceFile bytes faces → ⊥
IsFaceFault at bytes (Endless n) = (faces : List Face) × IsFaceFile bytes faces × IsFirstEndless faces at n

-- slicing the file is refused with this status
abbrev pub IsSliceRefusal : ℤ → List ℕ → Status → Type 0
IsSliceRefusal at bytes (FaceRefused fault) = IsFaceFault at bytes fault
IsSliceRefusal at bytes _ = ⊥
