-- The theorem from file to file: what is written has the meaning outside of the moves.
use Rattle.std.proofs.Common.{◌≡◌, sym, ap, subst, ◌∙◌, le_refl, ℕ, ◌^◌, List, map, length, ℤ, pos, ◌<ℤ◌}
use Rattle.std.specs.List.{All, AllByRecursion}
use Rattle.ember_algebra.specs.Large.{Eventually}
use Rattle.ember_algebra.proofs.Large.{eventually_both}
use Rattle.ember_algebra.proofs.Order.{pos_mul}
use Rattle.ember_expr.specs.Formula.{Formula}
use Rattle.ember_expr.specs.Truth.{truth}
use Rattle.ember_model.specs.declared.face.Face.{Face}
use Rattle.ember_model.specs.declared.point.Axis.{Axis}
use Rattle.ember_model.specs.declared.point.Spot.{Spot}
use Rattle.ember_model.specs.declared.tri.Tri.{Tri}
use Rattle.ember_model.specs.Clear.{AreClear}
use Rattle.ember_model.specs.Meshes.{wind, vector}
use Rattle.ember_model.specs.Points.{offset_by}
use Rattle.ember_meaning.specs.Regions.Meaning.{one_if}
use Rattle.ember_meaning.proofs.ClearMeaning.{vector_shifted}
use Rattle.mesh_effect.specs.Rounding.Floats.{float_number}
use Rattle.mesh_effect.specs.Rounding.Shown as effect
use Rattle.mesh_grid.specs.declared.grid.grid.Grid.{Grid}
use Rattle.mesh_grid.specs.Grid.Closed.{IsSurfaceClosed}
use Rattle.mesh_number.proofs.DigitNumbers.{pow_ten_pos}
use Rattle.mesh_read.specs.declared.surface.surface.Surface.{Surface}
use Rattle.mesh_scene.specs.Scene.Images.{images_of}
use Rattle.mesh_solid.specs.declared.mesh.mesh.SolidMesh.{SolidMesh}
use Rattle.mesh_write.specs.declared.stl.triangle.FloatTriangle.{FloatTriangle}
use Rattle.mesh_write.specs.declared.vertices.point.DecimalPoint.{DecimalPoint}
use Rattle.mesh_write.specs.Vertices.Vertices as vertices
use Rattle.mesh_written.specs.Closed.{Positions}
use Rattle.mesh_written.specs.Decimals.{decimal_point}
use Rattle.mesh_written.specs.Triangles.{point_at}
use Rattle.mesh_tolerance.specs.Files.{decimal_of_units, in_unit, on_grid, triangles_of_floats, triangles_of_decimals}
use Rattle.mesh_tolerance.specs.Files.{IsSolidOf, IsOutsideRounding, HaveMeaningOutsideMoves, HaveMeaningOutsideRounding}
use Rattle.mesh_tolerance.specs.Files.{AreFloatsOf, float_at, float_move, decimals_of, decimals_at, decimal_move, StayNear}
use Rattle.mesh_tolerance.specs.Meshes.{numbers_of, corner_at, moved_triangles}
use Rattle.mesh_tolerance.specs.Moves.{CornersMoveWithin}
use Rattle.mesh_tolerance.specs.Triangles.{faces_of_triangles}
use Rattle.mesh_tolerance.proofs.KeptTriangles.{float_faces, decimal_faces}
use Rattle.mesh_tolerance.proofs.MeanPoints.{points_move_within}
use Rattle.mesh_tolerance.proofs.MeshMeaningNearby.{moved_mesh_means_nearby}
use Rattle.mesh_tolerance.proofs.Numbers.{positive}
use Rattle.mesh_tolerance.proofs.SceneWindings.{scene_truth}
use Rattle.mesh_tolerance.proofs.SurfaceWindings.{surfaces_wind_nearby}
use Rattle.mesh_tolerance.proofs.WrittenMoves.{float_denominator, point_weight, floats_move, decimals_move}

module _ (g : Grid) (ss : List Surface) (x : Formula) (mesh : SolidMesh) (is : IsSolidOf g ss x mesh) where
  abbrev tris : List Tri
  tris = images_of g ss

  -- ---- any triangles with the faces of moved ones
  module _ (to : ℕ → Spot) (weights : (n : ℕ) → pos 0 <ℤ (to n).w) (move : effect.Rounded) (written : List (Positions Spot))
      (same : faces_of_triangles written ≡ faces_of_triangles (moved_triangles to mesh.triangles.items))
      (moves : AllByRecursion (CornersMoveWithin move.size (10 ^ move.places)
      (λ n. in_unit g (corner_at mesh.corners.items n)) to) (map numbers_of mesh.triangles.items)) where
    near : (a b : Axis) (p : Spot) → pos 0 <ℤ p.w → IsOutsideRounding g mesh move written p →
        Eventually (λ k. wind a (faces_of_triangles (moved_triangles to mesh.triangles.items)) p ≡ one_if
        (truth (vector b tris (offset_by (on_grid g p) (pos k))) x))
    near a b p wp out =
        moved_mesh_means_nearby tris (length ss) x mesh is.scene is.outside is.solid g is.step to weights move.size
        (10 ^ move.places) moves a b p wp (subst (λ (fs : List Face). AreClear fs p) same out.clear) out.far

    means_outside_rounding : HaveMeaningOutsideRounding g tris x mesh move written
    means_outside_rounding a b p wp clear out =
        let pn = positive is.step.numerator_positive in
        let e = eventually_both (near a b p wp out) (vector_shifted b tris (on_grid g p) (pos_mul pn wp) clear) in
        let h = e.holds e.from (le_refl e.from) in
        ap (λ (fs : List Face). wind a fs p) same ∙ h.0 ∙ ap (λ (c : List ℤ). one_if (truth c x)) (sym h.1)

    means_outside_moves : All IsSurfaceClosed ss → HaveMeaningOutsideMoves g ss x mesh move written
    means_outside_moves closed a b p wp outside out =
        let e = eventually_both (near a b p wp out) (surfaces_wind_nearby g is.step b p wp 1 ss closed outside) in
        let h = e.holds e.from (le_refl e.from) in let q = offset_by (on_grid g p) (pos e.from) in
        ap (λ (fs : List Face). wind a fs p) same ∙ h.0
        ∙ ap one_if (scene_truth b g ss q x is.scene.few_meshes ∙ ap (λ (c : List ℤ). truth c x) h.1)

  -- ---- floats
  module _ (ws : List FloatTriangle) (written : AreFloatsOf g mesh ws) where
    abbrev to : ℕ → Spot
    to n = float_at written.points n

    float_weight : (n : ℕ) → pos 0 <ℤ (to n).w
    float_weight n =
        let p = point_at written.points n in
        point_weight (float_number p.x) (float_number p.y) (float_number p.z) (float_denominator p.x) (float_denominator p.y)
        (float_denominator p.z)

    same_float_faces : faces_of_triangles (triangles_of_floats ws) ≡ faces_of_triangles (moved_triangles to mesh.triangles.items)
    same_float_faces =
        ap (λ (us : List FloatTriangle). faces_of_triangles (triangles_of_floats us)) written.written
        ∙ float_faces mesh.planes.items written.points mesh.triangles.items

    float_moves : AllByRecursion (CornersMoveWithin (float_move g mesh written.points).size
        (10 ^ (float_move g mesh written.points).places) (λ n. in_unit g (corner_at mesh.corners.items n)) to)
        (map numbers_of mesh.triangles.items)
    float_moves =
        floats_move g is.step mesh.corners.items mesh.planes.items mesh.triangles.items
        is.solid.of_document.cut.certified.proper written.points written.rounded.count

    pub floats_mean_outside_rounding : HaveMeaningOutsideRounding g tris x mesh (float_move g mesh written.points) (triangles_of_floats ws)
    floats_mean_outside_rounding =
        means_outside_rounding to float_weight (float_move g mesh written.points) (triangles_of_floats ws)
        same_float_faces float_moves

    pub floats_mean_outside_moves : All IsSurfaceClosed ss →
        HaveMeaningOutsideMoves g ss x mesh (float_move g mesh written.points) (triangles_of_floats ws)
    floats_mean_outside_moves =
        means_outside_moves to float_weight (float_move g mesh written.points) (triangles_of_floats ws)
        same_float_faces float_moves

    pub floats_stay_near : StayNear g mesh (float_move g mesh written.points) to
    floats_stay_near =
        let move = float_move g mesh written.points in
        points_move_within move.size (10 ^ move.places) (λ n. in_unit g (corner_at mesh.corners.items n)) to
        (map numbers_of mesh.triangles.items) float_moves

  -- ---- decimals
  module _ (places : ℕ) where
    abbrev points : List DecimalPoint
    points = map (decimal_point places g.step g.offset) mesh.corners.items

    abbrev decimal_at : ℕ → Spot
    decimal_at n = decimals_at places g mesh n

    decimal_weight : (n : ℕ) → pos 0 <ℤ (decimal_at n).w
    decimal_weight n =
        let p = vertices.point_at points n in let ten = pow_ten_pos places in
        point_weight (decimal_of_units places p.x) (decimal_of_units places p.y) (decimal_of_units places p.z) ten ten ten

    abbrev file : List (Positions Spot)
    file = triangles_of_decimals places (decimals_of places g mesh)

    moves : AllByRecursion (CornersMoveWithin (decimal_move places g mesh).size (10 ^ (decimal_move places g mesh).places)
        (λ n. in_unit g (corner_at mesh.corners.items n)) decimal_at) (map numbers_of mesh.triangles.items)
    moves =
        decimals_move g is.step mesh.corners.items mesh.planes.items mesh.triangles.items
        is.solid.of_document.cut.certified.proper places

    pub decimals_mean_outside_rounding : HaveMeaningOutsideRounding g tris x mesh (decimal_move places g mesh) file
    decimals_mean_outside_rounding =
        means_outside_rounding decimal_at decimal_weight (decimal_move places g mesh) file
        (decimal_faces places points mesh.triangles.items) moves

    pub decimals_mean_outside_moves : All IsSurfaceClosed ss →
        HaveMeaningOutsideMoves g ss x mesh (decimal_move places g mesh) file
    decimals_mean_outside_moves =
        means_outside_moves decimal_at decimal_weight (decimal_move places g mesh) file
        (decimal_faces places points mesh.triangles.items) moves

    pub decimals_stay_near : StayNear g mesh (decimal_move places g mesh) decimal_at
    decimals_stay_near =
        let move = decimal_move places g mesh in
        points_move_within move.size (10 ^ move.places) (λ n. in_unit g (corner_at mesh.corners.items n)) decimal_at
        (map numbers_of mesh.triangles.items) moves
