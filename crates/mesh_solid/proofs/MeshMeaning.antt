-- The triangles of a solid's mesh wind as the faces of its document, so they have the meaning of the expression.
use Rattle.std.proofs.Common.{le_refl, sym, subst, ◌∙◌, ℕ, List, map, pos}
use Rattle.std.specs.List.{AllByRecursion}
use Rattle.ember_algebra.proofs.Large.{eventually_both}
use Rattle.ember_model.specs.declared.tri.Tri.{Tri}
use Rattle.ember_model.specs.declared.face.Face.{Face}
use Rattle.ember_model.specs.declared.point.Axis.TheVariants.{X}
use Rattle.ember_model.specs.FaceFiles.{WrittenFace}
use Rattle.ember_model.specs.Meshes.{IsScene, vector}
use Rattle.ember_model.specs.Points.{offset_by}
use Rattle.ember_law.proofs.Generic.{wind_shifted}
use Rattle.ember_meaning.specs.Closed.Chains.{face_from, IsOutlined}
use Rattle.ember_meaning.proofs.ClearRectangle.{each_axis}
use Rattle.ember_expr.specs.Formula.{Formula}
use Rattle.ember_expr.specs.Truth.{truth}
use Rattle.ember_meaning.specs.Regions.Meaning.{IsFalseOutside, HaveMeaning}
use Rattle.ember_meaning.specs.Regions.Nearby.{WindOnceAtMost}
use Rattle.ember_meaning.proofs.Nearby.{meaning_nearby, wind_nearby_as_here}
use Rattle.ember_meaning.proofs.ReadFaces.{document_reads}
use Rattle.ember_reread.proofs.OneReading.{face_file_is_read_once}
use Rattle.mesh_solid.specs.Winding.TriangleFaces.{WindAlike, WindAlikeNearby}
use Rattle.mesh_solid.specs.declared.mesh.mesh.SolidMesh.{SolidMesh}
use Rattle.mesh_solid.specs.Mesh.MeshFaces.{faces_of_mesh}
use Rattle.mesh_solid.specs.Mesh.Meshes.{IsDocumentMesh, IsSolidMesh}
use Rattle.mesh_solid.proofs.DocumentWinding.{document_winds_as_faces, document_winds_as_faces_nearby}
use Rattle.mesh_solid.proofs.SolidFaces.{mesh_faces_mean}

module _ (tris : List Tri) (meshes : ℕ) (formula : Formula) (mesh : SolidMesh) (scene : IsScene tris meshes)
    (outside : IsFalseOutside formula) (is : IsSolidMesh tris formula mesh) where
  abbrev d : IsDocumentMesh is.bytes mesh
  d = is.of_document

  abbrev ws : List WrittenFace
  ws = is.of_document.tables_are.read.written

  -- the faces as they are read are outlined
  outlined : AllByRecursion IsOutlined ws
  outlined =
      let reads = document_reads tris meshes formula is.text.kept is.bytes scene is.text.solid.written outside is.text.text in
      subst (λ (written : List WrittenFace). AllByRecursion IsOutlined written)
      (face_file_is_read_once is.bytes reads.faces d.tables_are.faces reads.read d.tables_are.read) reads.outlined

  meaning : HaveMeaning tris formula (map face_from ws)
  meaning =
      subst (λ (faces : List Face). HaveMeaning tris formula faces) d.tables_are.read.faces (mesh_faces_mean tris meshes formula mesh scene outside is)

  nearby : WindAlikeNearby (map face_from ws) (faces_of_mesh mesh)
  nearby =
      subst (λ (faces : List Face). WindAlikeNearby faces (faces_of_mesh mesh)) d.tables_are.read.faces
      (document_winds_as_faces_nearby is.bytes mesh d outlined)

  -- the triangles wind as the document's faces
  pub mesh_winds_as_faces : WindAlike d.tables_are.faces (faces_of_mesh mesh)
  mesh_winds_as_faces = document_winds_as_faces is.bytes mesh d outlined

  -- once where the expression is true of the scene, and not at all elsewhere
  pub mesh_means : HaveMeaning tris formula (faces_of_mesh mesh)
  mesh_means a b p weight clear_scene clear_mesh =
      let s = eventually_both (wind_shifted a p (faces_of_mesh mesh) weight clear_mesh)
      (eventually_both (nearby a p weight) (wind_nearby_as_here tris formula ws outlined meaning p weight
      clear_scene)) in
      let h = s.holds s.from (le_refl s.from) in h.0 ∙ sym h.1.0 ∙ h.1.1 a b

  -- and once at most around each point that is clear of them
  pub mesh_winds_once_at_most : WindOnceAtMost (faces_of_mesh mesh)
  mesh_winds_once_at_most p weight clear =
      let s = eventually_both (each_axis (λ a. wind_shifted a p (faces_of_mesh mesh) weight clear))
      (eventually_both (each_axis (λ a. nearby a p weight))
      (meaning_nearby tris formula ws outlined meaning p weight)) in
      let h = s.holds s.from (le_refl s.from) in
      (truth (vector X tris (offset_by p (pos s.from))) formula, λ a. h.0 a ∙ sym (h.1.0 a) ∙ h.1.1 a X)
