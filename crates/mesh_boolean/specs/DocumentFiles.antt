-- The file of a document, and why there is none
use Rattle.std.specs.Prelude.{◌≢◌, ⊤, ℕ, Bool, List}
use Rattle.mesh_grid.specs.declared.grid.grid.Grid.{Grid}
use Rattle.mesh_solid.specs.declared.mesh.fault.DocumentFault.{DocumentFault}
use Rattle.mesh_solid.specs.declared.mesh.fault.DocumentFault.TheVariants as document_fault
use Rattle.mesh_solid.specs.declared.mesh.mesh.SolidMesh.{SolidMesh}
use Rattle.mesh_solid.specs.Mesh.Faults.{IsDocumentFault}
use Rattle.mesh_solid.specs.Mesh.Meshes.{IsOutlinedMesh}
use Rattle.mesh_boolean.specs.declared.document.DocumentFileFault.{DocumentFileFault}
use Rattle.mesh_boolean.specs.declared.document.DocumentFileFault.TheVariants.{Document, TooFar}
use Rattle.mesh_boolean.specs.declared.document.DocumentFileFault.TheVariants.{TooManyTriangles}
use Rattle.mesh_boolean.specs.declared.document.DocumentFileFault.TheVariants.{OutOfMemory}
use Rattle.mesh_boolean.specs.declared.wanted.MeshFormat.{MeshFormat}
use Rattle.mesh_boolean.specs.declared.writing.OutputMesh.{OutputMesh}
use Rattle.mesh_boolean.specs.declared.writing_fault.WritingFault.{WritingFault}
use Rattle.mesh_boolean.specs.declared.writing_fault.WritingFault.TheVariants as writing_fault
use Rattle.mesh_boolean.specs.Outputs.{AreShownIf, IsClosedAs}
use Rattle.mesh_boolean.specs.WritingFaults.{HasTooMany, LiesTooFar}

-- ---- the file
-- there is a mesh of the document; the file is this mesh on the grid, in this format, closed; and the
-- triangles that are
-- shown are there if they are asked for
pub record IsDocumentOutput (bytes : List ℕ) (grid : Grid) (format : MeshFormat) (shows : Bool) (file : OutputMesh) :
    Type 0 where
  pub mesh : SolidMesh
  pub of_document : IsOutlinedMesh bytes mesh
  pub written : IsClosedAs format grid mesh file
  pub shown : AreShownIf shows grid mesh file.shown

-- ---- the faults of the steps, where want of memory is one
abbrev pub of_document_fault : DocumentFault → DocumentFileFault
of_document_fault document_fault.OutOfMemory = OutOfMemory
of_document_fault fault = Document fault

abbrev pub of_unwritten_fault : WritingFault → DocumentFileFault
of_unwritten_fault writing_fault.TooFar = TooFar
of_unwritten_fault writing_fault.TooManyTriangles = TooManyTriangles
of_unwritten_fault writing_fault.OutOfMemory = OutOfMemory

-- ---- all of them
-- the document has no mesh, and not for want of memory
pub record HasNoDocumentMesh (bytes : List ℕ) (fault : DocumentFault) : Type 0 where
  pub is_fault : IsDocumentFault bytes fault
  pub of_document : fault ≢ document_fault.OutOfMemory

-- it has a mesh, and the mesh has this fault
pub record HasUnwrittenMesh (bytes : List ℕ) (IsFault : SolidMesh → Type 0) : Type 0 where
  pub mesh : SolidMesh
  pub of_document : IsOutlinedMesh bytes mesh
  pub is_fault : IsFault mesh

-- no mesh, or a mesh that isn't written; or want of memory, of which nothing is said
abbrev pub IsDocumentFileFault : List ℕ → Grid → MeshFormat → DocumentFileFault → Type 0
IsDocumentFileFault bytes grid format (Document fault) = HasNoDocumentMesh bytes fault
IsDocumentFileFault bytes grid format TooFar = HasUnwrittenMesh bytes (LiesTooFar format grid)
IsDocumentFileFault bytes grid format TooManyTriangles = HasUnwrittenMesh bytes (HasTooMany format grid)
IsDocumentFileFault bytes grid format OutOfMemory = ⊤
