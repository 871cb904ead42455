-- The faults of the steps from a document to its mesh file are those of the document
use Rattle.std.proofs.Common.{ℕ, List}
use Rattle.mesh_grid.specs.declared.grid.grid.Grid.{Grid}
use Rattle.mesh_solid.specs.declared.mesh.fault.DocumentFault.{DocumentFault}
use Rattle.mesh_solid.specs.declared.mesh.fault.DocumentFault.TheVariants as document_fault
use Rattle.mesh_solid.specs.declared.mesh.mesh.SolidMesh.{SolidMesh}
use Rattle.mesh_solid.specs.Mesh.Faults.{IsDocumentFault}
use Rattle.mesh_solid.specs.Mesh.Meshes.{IsOutlinedMesh}
use Rattle.mesh_boolean.specs.declared.wanted.MeshFormat.{MeshFormat}
use Rattle.mesh_boolean.specs.declared.writing_fault.WritingFault.{WritingFault}
use Rattle.mesh_boolean.specs.declared.writing_fault.WritingFault.TheVariants.{TooFar, TooManyTriangles, OutOfMemory}
use Rattle.mesh_boolean.specs.DocumentFiles.{IsDocumentFileFault, of_document_fault, of_unwritten_fault}
use Rattle.mesh_boolean.specs.WritingFaults.{IsWritingFault}

-- a fault of the document's mesh
pub document_fault_is : (bytes : List ℕ) (grid : Grid) (format : MeshFormat) (cause : DocumentFault) →
    IsDocumentFault bytes cause → IsDocumentFileFault bytes grid format (of_document_fault cause)
document_fault_is bytes grid format document_fault.NotADocument h = record { is_fault = h; of_document = λ e. cc }
document_fault_is bytes grid format (document_fault.OffPlane face) h = record { is_fault = h; of_document = λ e. cc }
document_fault_is bytes grid format (document_fault.OffEdge face) h = record { is_fault = h; of_document = λ e. cc }
document_fault_is bytes grid format (document_fault.NotRound face) h = record { is_fault = h; of_document = λ e. cc }
document_fault_is bytes grid format (document_fault.NoTables fault) h = record { is_fault = h; of_document = λ e. cc }
document_fault_is bytes grid format document_fault.NotClosed h = record { is_fault = h; of_document = λ e. cc }
document_fault_is bytes grid format document_fault.Overlap h = record { is_fault = h; of_document = λ e. cc }
document_fault_is bytes grid format (document_fault.NotCut fault) h = record { is_fault = h; of_document = λ e. cc }
document_fault_is bytes grid format document_fault.OutOfMemory h = tt

-- a fault of the mesh's file
pub unwritten_fault_is : (bytes : List ℕ) (grid : Grid) (format : MeshFormat) (mesh : SolidMesh) →
    IsOutlinedMesh bytes mesh → (cause : WritingFault) → IsWritingFault format grid mesh cause →
    IsDocumentFileFault bytes grid format (of_unwritten_fault cause)
unwritten_fault_is bytes grid format mesh of_document TooFar h =
    record { mesh = mesh; of_document = of_document; is_fault = h }
unwritten_fault_is bytes grid format mesh of_document TooManyTriangles h =
    record { mesh = mesh; of_document = of_document; is_fault = h }
unwritten_fault_is bytes grid format mesh of_document OutOfMemory h = tt
