-- Shifted a little from any point, a point is clear of outlined faces.
use Rattle.std.proofs.Common.{◌≡◌, List, [], ◌∷◌, map, pos, ◌<ℤ◌}
use Rattle.std.specs.List.{AllByRecursion}
use Rattle.ember_algebra.specs.Large.{Eventually}
use Rattle.ember_algebra.proofs.Large.{eventually_both, eventually_map}
use Rattle.ember_model.specs.declared.point.Spot.{Spot}
use Rattle.ember_model.specs.declared.point.Axis.{Axis}
use Rattle.ember_model.specs.Planes.{value_at, HasNoNormal}
use Rattle.ember_model.specs.Points.{offset_by}
use Rattle.ember_model.specs.Clear.{IsClear, AreClear}
use Rattle.ember_model.specs.FaceFiles.{WrittenFace}
use Rattle.ember_law.proofs.Shifted.{off_shifted, weight_shifted, eventually_true}
use Rattle.ember_law.proofs.Generic.{at_hit_of}
use Rattle.ember_poly.proofs.InsideSigns.{eventually_each}
use Rattle.ember_meaning.specs.Closed.Chains.{face_from, IsOutlined}
use Rattle.ember_meaning.proofs.ClearCorners.{off_face_is_clear}
use Rattle.ember_meaning.proofs.ClearRectangle.{all_of, each_axis}

module _ (p : Spot) (weight : pos 0 <ℤ p.w) where
  clear_shifted_face : (w : WrittenFace) → IsOutlined w → Eventually (λ k. IsClear (face_from w) (offset_by p (pos k)))
  clear_shifted_face w line =
      eventually_map (λ k h. off_face_is_clear w (offset_by p (pos k)) line
      (record { weight = h.0; support = h.1.0; hits = h.1.1 }))
      (eventually_both (weight_shifted p weight) (eventually_both (off_shifted p w.support) (each_axis off_hits)))
    where
      off_hits : (a : Axis) → Eventually (λ k. AllByRecursion
          (λ g. value_at (at_hit_of g w.support a) (offset_by p (pos k)) ≡ pos 0 →
          HasNoNormal (at_hit_of g w.support a)) (map (λ e. e.plane) w.edges))
      off_hits a =
          eventually_each (λ g k. value_at (at_hit_of g w.support a) (offset_by p (pos k)) ≡ pos 0 →
          HasNoNormal (at_hit_of g w.support a)) (map (λ e. e.plane) w.edges)
          (all_of (λ g. Eventually (λ k. value_at (at_hit_of g w.support a) (offset_by p (pos k)) ≡ pos 0 →
          HasNoNormal (at_hit_of g w.support a))) (map (λ e. e.plane) w.edges)
          (λ g. off_shifted p (at_hit_of g w.support a)))

  -- near every point there are points that are clear of outlined faces
  pub clear_shifted_faces : (ws : List WrittenFace) → AllByRecursion IsOutlined ws → Eventually (λ k. AreClear (map face_from ws) (offset_by p (pos k)))
  clear_shifted_faces [] lines = eventually_true (λ k. tt)
  clear_shifted_faces (w ∷ ws) lines =
      eventually_map (λ k h. (h.0, h.1)) (eventually_both (clear_shifted_face w lines.0) (clear_shifted_faces ws lines.1))
