-- Near each point, the exact triangles of a solid have the meaning; so do its triangles after a move, outside of it.
use Rattle.std.proofs.Common.{◌≡◌, sym, ap, subst, ◌∙◌, ℕ, List, map, Option, Some, None, slice_get, pos, ◌<ℤ◌}
use Rattle.std.specs.List.{AllByRecursion}
use Rattle.ember_algebra.specs.Large.{Eventually}
use Rattle.ember_algebra.proofs.Large.{eventually_both, eventually_map}
use Rattle.ember_algebra.proofs.Order.{pos_mul}
use Rattle.ember_expr.specs.Formula.{Formula}
use Rattle.ember_expr.specs.Truth.{truth}
use Rattle.ember_model.specs.declared.face.Face.{Face}
use Rattle.ember_model.specs.declared.point.Axis.{Axis}
use Rattle.ember_model.specs.declared.point.Spot.{Spot}
use Rattle.ember_model.specs.declared.tri.Tri.{Tri}
use Rattle.ember_model.specs.Clear.{AreClear}
use Rattle.ember_model.specs.FaceFiles.{WrittenFace}
use Rattle.ember_model.specs.Meshes.{IsScene, wind, vector}
use Rattle.ember_model.specs.Points.{offset_by}
use Rattle.ember_law.proofs.Shifted.{weight_shifted}
use Rattle.ember_meaning.specs.Closed.Chains.{face_from, IsOutlined}
use Rattle.ember_meaning.specs.Regions.Meaning.{one_if, IsFalseOutside, HaveMeaning}
use Rattle.ember_meaning.proofs.Nearby.{meaning_nearby}
use Rattle.ember_meaning.proofs.ReadFaces.{document_reads}
use Rattle.ember_reread.proofs.OneReading.{face_file_is_read_once}
use Rattle.mesh_point.specs.declared.space_point.SpacePoint.{SpacePoint}
use Rattle.mesh_grid.specs.declared.grid.grid.Grid.{Grid}
use Rattle.mesh_grid.specs.Snap.Steps.{IsStep}
use Rattle.mesh_solid.specs.declared.mesh.mesh.SolidMesh.{SolidMesh}
use Rattle.mesh_solid.specs.Mesh.MeshFaces.{faces_of_mesh}
use Rattle.mesh_solid.specs.Mesh.Meshes.{IsSolidMesh}
use Rattle.mesh_solid.proofs.DocumentWinding.{document_winds_as_faces_nearby}
use Rattle.mesh_solid.proofs.SolidFaces.{mesh_faces_mean}
use Rattle.mesh_tolerance.specs.Distances.{IsFar}
use Rattle.mesh_tolerance.specs.Files.{in_unit, on_grid, exact_in_unit}
use Rattle.mesh_tolerance.specs.Meshes.{numbers_of, corner_from, corner_at, exact_triangles, moved_triangles}
use Rattle.mesh_tolerance.specs.Moves.{CornersMoveWithin}
use Rattle.mesh_tolerance.specs.Triangles.{faces_of_triangles}
use Rattle.mesh_tolerance.proofs.MovedSurfaces.{all_stay_ahead}
use Rattle.mesh_tolerance.proofs.MovedTriangles.{wind_alike_nearby}
use Rattle.mesh_tolerance.proofs.Numbers.{positive, one_positive}
use Rattle.mesh_tolerance.proofs.OnGrid.{point_weights, both_weights, grid_point_is_ahead, placed_is_ahead, wind_on_grid_nearby, stay_ahead_there}
use Rattle.mesh_tolerance.proofs.SeenMeshes.{mesh_is_seen, mesh_has_no_odd_sum}
use Rattle.mesh_tolerance.proofs.SeenTriangles.{wind_is_seen}

corner_weight : (cs : List SpacePoint) (n : ℕ) → pos 0 <ℤ (corner_at cs n).w
corner_weight cs n = by (slice_get cs n)
  where
    by : (o : Option SpacePoint) → pos 0 <ℤ (corner_from o).w
    by None = one_positive
    by (Some c) = c.valid.positive

module _ (tris : List Tri) (count : ℕ) (x : Formula) (mesh : SolidMesh) (scene : IsScene tris count)
    (outside : IsFalseOutside x) (is : IsSolidMesh tris x mesh) where
  abbrev ws : List WrittenFace
  ws = is.of_document.tables_are.read.written

  outlined : AllByRecursion IsOutlined ws
  outlined =
      let reads = document_reads tris count x is.text.kept is.bytes scene is.text.solid.written outside is.text.text in
      subst (λ (written : List WrittenFace). AllByRecursion IsOutlined written)
      (face_file_is_read_once is.bytes reads.faces is.of_document.tables_are.faces reads.read
      is.of_document.tables_are.read) reads.outlined

  meaning : HaveMeaning tris x (map face_from ws)
  meaning =
      subst (λ (faces : List Face). HaveMeaning tris x faces) is.of_document.tables_are.read.faces
      (mesh_faces_mean tris count x mesh scene outside is)

  -- once where the expression is true of the scene, and not at all elsewhere
  pub mesh_means_nearby : (a b : Axis) (p : Spot) → pos 0 <ℤ p.w →
      Eventually (λ k. wind a (faces_of_mesh mesh) (offset_by p (pos k)) ≡ one_if
      (truth (vector b tris (offset_by p (pos k))) x))
  mesh_means_nearby a b p wp =
      let alike = document_winds_as_faces_nearby is.bytes mesh is.of_document outlined a p wp in
      eventually_map (λ k h. sym h.0 ∙ ap (λ (faces : List Face). wind a faces (offset_by p (pos k)))
      is.of_document.tables_are.read.faces ∙ h.1 a b)
      (eventually_both alike (meaning_nearby tris x ws outlined meaning p wp))

  -- ---- after a move
  module _ (g : Grid) (step : IsStep g.step) (to : ℕ → Spot) (weights : (n : ℕ) → pos 0 <ℤ (to n).w) (size unit : ℕ)
      (moves : AllByRecursion (CornersMoveWithin size unit (λ n. in_unit g (corner_at mesh.corners.items n)) to)
      (map numbers_of mesh.triangles.items)) where
    pn : pos 0 <ℤ pos g.step.numerator
    pn = positive step.numerator_positive

    pm : pos 0 <ℤ pos g.step.denominator
    pm = positive step.denominator_positive

    pub moved_mesh_means_nearby : (a b : Axis) (p : Spot) → pos 0 <ℤ p.w →
        AreClear (faces_of_triangles (moved_triangles to mesh.triangles.items)) p →
        AllByRecursion (IsFar size unit p) (exact_in_unit g mesh) →
        Eventually (λ k. wind a (faces_of_triangles (moved_triangles to mesh.triangles.items)) p ≡ one_if
        (truth (vector b tris (offset_by (on_grid g p) (pos k))) x))
    moved_mesh_means_nearby a b p wp clear far =
        let cs = mesh.corners.items in let ps = mesh.planes.items in let ts = mesh.triangles.items in
        let ns = map numbers_of ts in let here = on_grid g p in let wh = pos_mul pn wp in
        let placed = λ (n : ℕ). on_grid g (to n) in
        let placed_weight = λ (n : ℕ). pos_mul pn (weights n) in
        let certified = is.of_document.cut.certified in
        let unit_corner = λ (n : ℕ). in_unit g (corner_at cs n) in
        let ahead = stay_ahead_there unit_corner to (corner_at cs) placed p here
        (λ d n h. grid_point_is_ahead g d p (corner_at cs n) h) (λ d n h. placed_is_ahead g pn pm d p (to n) h) ns
        (all_stay_ahead size unit unit_corner to p ns moves far) in
        eventually_map (λ k h. let q = offset_by here (pos k) in
        sym h.1.0 ∙ h.1.1.0
        ∙ wind_is_seen a q (exact_triangles cs ts) h.0 (point_weights (corner_at cs) (corner_weight cs) ns)
        ∙ sym (mesh_is_seen ps cs a q h.0 ts certified.proper) ∙ h.1.1.1)
        (eventually_both (weight_shifted here wh) (eventually_both (wind_on_grid_nearby g pn pm to weights ns a p wp clear)
        (eventually_both (wind_alike_nearby (corner_at cs) placed a here ns wh
        (mesh_has_no_odd_sum ps cs ts certified.proper certified.closed)
        (both_weights (corner_at cs) placed (corner_weight cs) placed_weight ns) ahead)
        (mesh_means_nearby a b here wh))))
