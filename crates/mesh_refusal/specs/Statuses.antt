-- The statuses of files that give no output
use Rattle.std.specs.Prelude.{◌≡◌, ◌⊎◌, ⊤, ℕ, ◌+◌, ◌<◌, List, length, Some, slice_get, String, string_bytes}
use Rattle.std.specs.declared.alloc.Global.{Global}
use Rattle.mesh_boolean.specs.declared.fault.BooleanFault.{BooleanFault}
use Rattle.mesh_boolean.specs.declared.fault.BooleanFault.TheVariants as boolean
use Rattle.mesh_boolean.specs.declared.files.InputFile.{InputFile}
use Rattle.mesh_file.specs.declared.file.fault.FileFault.{FileFault}
use Rattle.mesh_file.specs.File.Faults.{fault_of}
use Rattle.mesh_file.specs.File.Reasons.{reason_of}
use Rattle.mesh_file.specs.declared.format.format.Format.{Format}
use Rattle.mesh_file.specs.Format.Formats.{format_said}
use Rattle.mesh_scene.specs.declared.scene.fault.SceneFault.TheVariants as scene
use Rattle.mesh_placing.specs.declared.image.ImageFault.{ImageFault}
use Rattle.mesh_refusal.specs.Placings.{image_reason}
use Rattle.mesh_refusal.specs.declared.status.Status.{Status}
use Rattle.mesh_refusal.specs.declared.status.Status.TheVariants.{FileRefused}
use Rattle.mesh_refusal.specs.declared.status.Status.TheVariants.{NoTriangles, NotClosed}
use Rattle.mesh_refusal.specs.declared.status.Status.TheVariants.{TooManyTriangles, TooManyWritten}
use Rattle.mesh_refusal.specs.declared.status.Status.TheVariants.{StepTooSmall, TooFar, OutOfMemory}
use Rattle.mesh_refusal.specs.declared.status.Status.TheVariants.{Uncertified}

-- ---- what a fault says of a file
-- this is why the file with this index is refused for its fault
pub record HasReason (files : List InputFile) (index : ℕ) (fault : FileFault) (reason : List ℕ) : Type 0 where
  pub file : InputFile
  pub found : slice_get files index ≡ Some file
  pub is : reason ≡ reason_of file.bytes.now (fault_of fault)

-- the file with this index has this format
pub record HasFormat (files : List InputFile) (index : ℕ) (format : Format) : Type 0 where
  pub file : InputFile
  pub found : slice_get files index ≡ Some file
  pub is : format ≡ format_said file.name.now file.bytes.now

-- the file that the fault names by its index, if it names one, is there
abbrev pub NamesFile : List InputFile → BooleanFault → Type 0
NamesFile files (boolean.File index fault) = index < length files
NamesFile files (boolean.Image index fault) = index < length files
NamesFile files (boolean.Scene (scene.Open o)) = o.file < length files
NamesFile files fault = ⊤

-- ---- statuses
-- the reason of the file with this index is made, or there is no memory for it
abbrev pub IsRefusalStatus : List InputFile → ℕ → FileFault → Status → Type 0
IsRefusalStatus files index fault status =
    ((reason : String Global) × (status ≡ FileRefused (index + 1) reason) ×
    HasReason files index fault (string_bytes reason)) ⊎ (status ≡ OutOfMemory)

-- the reason of the file that is no mesh where it is placed is made, or there is no memory for it
abbrev pub IsUnplaceableStatus : ℕ → ImageFault → Status → Type 0
IsUnplaceableStatus index fault status =
    ((reason : String Global) × (status ≡ FileRefused (index + 1) reason) ×
    (string_bytes reason ≡ image_reason fault)) ⊎ (status ≡ OutOfMemory)

-- the status of files with this fault
abbrev pub IsStatusOf : List InputFile → BooleanFault → Status → Type 0
IsStatusOf files (boolean.File index fault) status = IsRefusalStatus files index fault status
IsStatusOf files (boolean.Image index fault) status = IsUnplaceableStatus index fault status
IsStatusOf files (boolean.Scene scene.NoTriangles) status = status ≡ NoTriangles
IsStatusOf files (boolean.Scene (scene.StepTooSmall extent)) status = status ≡ StepTooSmall extent
IsStatusOf files (boolean.Scene (scene.Open o)) status =
    (format : Format) × (status ≡ NotClosed o format) × HasFormat files o.file format
IsStatusOf files (boolean.Scene (scene.TooManyTriangles count)) status = status ≡ TooManyTriangles count
IsStatusOf files (boolean.Scene scene.OutOfMemory) status = status ≡ OutOfMemory
IsStatusOf files (boolean.Solid fault) status = status ≡ Uncertified fault
IsStatusOf files boolean.TooFar status = status ≡ TooFar
IsStatusOf files boolean.TooManyTriangles status = status ≡ TooManyWritten
IsStatusOf files boolean.OutOfMemory status = status ≡ OutOfMemory
