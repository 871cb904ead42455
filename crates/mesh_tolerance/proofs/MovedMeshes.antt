-- Certified triangles whose corners move by at most a distance wind as before around what is farther from them than that.
use Rattle.std.proofs.Common.{◌≡◌, sym, ◌∙◌, le_refl, ℕ, List, map, pos, ◌<ℤ◌}
use Rattle.ember_algebra.proofs.Large.{eventually_both, eventually_map}
use Rattle.ember_model.specs.declared.plane.Plane.{Plane}
use Rattle.ember_model.specs.declared.point.Axis.{Axis}
use Rattle.ember_model.specs.declared.point.Spot.{Spot}
use Rattle.ember_model.specs.Meshes.{wind}
use Rattle.ember_model.specs.Points.{offset_by}
use Rattle.ember_algebra.specs.Large.{Eventually}
use Rattle.std.specs.List.{AllByRecursion}
use Rattle.ember_law.proofs.Generic.{wind_shifted}
use Rattle.ember_law.proofs.Shifted.{weight_shifted}
use Rattle.mesh_certificate.specs.declared.certificate.segment.Segment.{Segment}
use Rattle.mesh_point.specs.declared.space_point.SpacePoint.{SpacePoint}
use Rattle.mesh_certificate.specs.declared.certificate.triangle.Triangle.{Triangle}
use Rattle.mesh_certificate.specs.declared.key.lines.LineKey.{LineKey}
use Rattle.mesh_certificate.specs.Certificate.Certificate.{IsCertified}
use Rattle.mesh_solid.specs.Winding.TriangleFaces.{triangle_faces}
use Rattle.mesh_tolerance.specs.Distances.{IsFar}
use Rattle.mesh_tolerance.specs.Meshes.{numbers_of, corner_at, exact_triangles, moved_triangles, MoveWithin, MeshWindsAsBefore}
use Rattle.mesh_tolerance.specs.Triangles.{faces_of_triangles}
use Rattle.mesh_tolerance.proofs.MovedSurfaces.{weights, all_stay_ahead}
use Rattle.mesh_tolerance.proofs.MovedTriangles.{wind_alike_nearby, weights_before}
use Rattle.mesh_tolerance.proofs.SeenMeshes.{mesh_is_seen, mesh_has_no_odd_sum}
use Rattle.mesh_tolerance.proofs.SeenTriangles.{wind_is_seen}

module _ (ps : List Plane) (ls : List LineKey) (cs : List SpacePoint) (faces : List Segment) (ts : List Triangle)
    (certified : IsCertified ps ls cs faces ts) (size unit : ℕ) (to : ℕ → Spot) (moves : MoveWithin size unit cs to ts) where
  -- near each point that is far enough away
  pub mesh_winds_as_before_nearby : (a : Axis) (p : Spot) → pos 0 <ℤ p.w →
      AllByRecursion (IsFar size unit p) (exact_triangles cs ts) →
      Eventually (λ k. wind a (faces_of_triangles (moved_triangles to ts)) (offset_by p (pos k)) ≡ wind a
      (triangle_faces ps cs ts) (offset_by p (pos k)))
  mesh_winds_as_before_nearby a p wp far =
      let ns = map numbers_of ts in let w = weights size unit (corner_at cs) to ns moves in
      eventually_map (λ k h. let q = offset_by p (pos k) in
      h.1 ∙ wind_is_seen a q (exact_triangles cs ts) h.0 (weights_before (corner_at cs) to ns w)
      ∙ sym (mesh_is_seen ps cs a q h.0 ts certified.proper))
      (eventually_both (weight_shifted p wp) (wind_alike_nearby (corner_at cs) to a p ns wp
      (mesh_has_no_odd_sum ps cs ts certified.proper certified.closed) w
      (all_stay_ahead size unit (corner_at cs) to p ns moves far)))

  pub mesh_winds_as_before : MeshWindsAsBefore size unit ps cs to ts
  mesh_winds_as_before a p wp far clear clear' =
      let e = eventually_both (mesh_winds_as_before_nearby a p wp far)
      (eventually_both (wind_shifted a p (triangle_faces ps cs ts) wp clear)
      (wind_shifted a p (faces_of_triangles (moved_triangles to ts)) wp clear')) in
      let h = e.holds e.from (le_refl e.from) in h.1.1 ∙ h.0 ∙ sym h.1.0
