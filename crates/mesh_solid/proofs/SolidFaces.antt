-- The faces that the mesh of a solid cuts up are those of its document, which have the meaning and are closed.
use Rattle.std.proofs.Common.{ℕ, subst, List}
use Rattle.ember_meaning.specs.Closed.Chains.{IsClosedSurface}
use Rattle.ember_expr.specs.Formula.{Formula}
use Rattle.ember_meaning.specs.Regions.Meaning.{IsFalseOutside, HaveMeaning, ReadsWithMeaning}
use Rattle.ember_meaning.proofs.ReadFaces.{document_reads}
use Rattle.ember_model.specs.declared.face.Face.{Face}
use Rattle.ember_model.specs.declared.tri.Tri.{Tri}
use Rattle.ember_model.specs.FaceFiles.{WrittenFace}
use Rattle.ember_model.specs.Meshes.{IsScene}
use Rattle.ember_reread.proofs.OneReading.{face_file_is_read_once, one_reading}
use Rattle.mesh_solid.specs.declared.mesh.mesh.SolidMesh.{SolidMesh}
use Rattle.mesh_solid.specs.Mesh.Meshes.{IsSolidMesh}

module _ (tris : List Tri) (meshes : ℕ) (formula : Formula) (mesh : SolidMesh) (scene : IsScene tris meshes)
    (outside : IsFalseOutside formula) (is : IsSolidMesh tris formula mesh) where
  reads : ReadsWithMeaning tris formula is.bytes
  reads = document_reads tris meshes formula is.text.kept is.bytes scene is.text.solid.written outside is.text.text

  pub mesh_faces_mean : HaveMeaning tris formula is.of_document.tables_are.faces
  mesh_faces_mean =
      subst (λ (faces : List Face). HaveMeaning tris formula faces)
      (one_reading is.bytes reads.faces is.of_document.tables_are.faces reads.read is.of_document.tables_are.read)
      reads.meaning

  pub mesh_faces_are_closed : IsClosedSurface is.of_document.tables_are.read.written
  mesh_faces_are_closed =
      subst (λ (written : List WrittenFace). IsClosedSurface written)
      (face_file_is_read_once is.bytes reads.faces is.of_document.tables_are.faces reads.read
      is.of_document.tables_are.read) reads.closed
