-- The number of a status
use Rattle.std.specs.Prelude.{ℕ}
use Rattle.mesh_solid.specs.declared.mesh.fault.DocumentFault.{DocumentFault}
use Rattle.mesh_solid.specs.declared.mesh.fault.DocumentFault.TheVariants as document
use Rattle.mesh_refusal.specs.declared.status.Status.{Status}
use Rattle.mesh_refusal.specs.declared.status.Status.TheVariants.{Done, Words, StepOfNoGrid, ReadFault}
use Rattle.mesh_refusal.specs.declared.status.Status.TheVariants.{WriteFault, NotWritten, NotAScene}
use Rattle.mesh_refusal.specs.declared.status.Status.TheVariants.{DocumentRefused, FileRefused}
use Rattle.mesh_refusal.specs.declared.status.Status.TheVariants.{NoTriangles, NotClosed, ExprRefused}
use Rattle.mesh_refusal.specs.declared.status.Status.TheVariants.{Unbounded, LongFile}
use Rattle.mesh_refusal.specs.declared.status.Status.TheVariants.{TooManyTriangles, TooManyWritten}
use Rattle.mesh_refusal.specs.declared.status.Status.TheVariants.{StepTooSmall, TooFar, OutOfMemory}
use Rattle.mesh_refusal.specs.declared.status.Status.TheVariants.{Uncertified}

-- of a document without a mesh: it is to blame, or it isn't known why
abbrev pub document_number : DocumentFault → ℕ
document_number (document.NotCut fault) = 14
document_number fault = 11

-- the exit status
abbrev pub number_of : Status → ℕ
number_of Done = 0
number_of (Words why) = 2
number_of StepOfNoGrid = 2
number_of (ReadFault i kind) = 3
number_of WriteFault = 4
number_of (NotWritten name) = 4
number_of (FileRefused i reason) = 5
number_of NoTriangles = 5
number_of NotAScene = 5
number_of (NotClosed o format) = 6
number_of (ExprRefused fault) = 7
number_of Unbounded = 8
number_of (LongFile i) = 9
number_of (TooManyTriangles count) = 9
number_of TooManyWritten = 9
number_of (StepTooSmall extent) = 10
number_of TooFar = 10
number_of (DocumentRefused fault) = document_number fault
number_of OutOfMemory = 12
number_of (Uncertified fault) = 14
