-- The winding number of triangles of points, by how their corners are seen.
use Rattle.std.proofs.Common.{◌≡◌, refl, arith, Bool, true, false, not, cond, List, [], ◌∷◌, map, filter, ℤ, pos, ◌+ℤ◌, ◌*ℤ◌, ◌<ℤ◌}
use Rattle.std.specs.List.{AllByRecursion}
use Rattle.ember_algebra.specs.Sums.{total}
use Rattle.ember_algebra.specs.Vector.{Vector, dot}
use Rattle.ember_algebra.proofs.Laws.{linear}
use Rattle.ember_algebra.proofs.Order.{pos_mul}
use Rattle.ember_algebra.proofs.Ring.{◌⊕◌, ◌⊗◌, ◌≈◌, num, solve, cancels}
use Rattle.ember_algebra.proofs.Vectors.{tuple, identity, dotE, crossE, valueE, vector_partE, square_positive}
use Rattle.ember_model.specs.declared.point.Axis.{Axis}
use Rattle.ember_model.specs.declared.point.Spot.{Spot}
use Rattle.ember_model.specs.Meshes.{wind}
use Rattle.ember_model.specs.Planes.{value_at}
use Rattle.ember_model.proofs.Tuples.{spot_tuple}
use Rattle.ember_model.specs.Points.{displacement}
use Rattle.ember_model.proofs.Displacements.{displacementE}
use Rattle.ember_meaning.specs.Closed.Chains.{is_zero_vector}
use Rattle.ember_meaning.proofs.Displacements.{zero_vector_out, zero_not}
use Rattle.mesh_certificate.specs.Certificate.Facing.{triangle_normal, FacesFront}
use Rattle.mesh_written.specs.Closed.{Positions}
use Rattle.mesh_tolerance.specs.Similar.{HasWeights}
use Rattle.mesh_tolerance.specs.Triangles.{plane_of_points, has_no_area, face_of_corners, faces_of_triangles}
use Rattle.mesh_tolerance.proofs.SeenFaces.{flat_is_not_crossed, face_is_seen}
use Rattle.mesh_tolerance.proofs.Sides.{seen_crossing}

-- ---- the triangle's own plane
on_first : (u v w : Spot) → value_at (plane_of_points u v w) u ≡ pos 0
on_first u v w =
    identity (tuple ∷ tuple ∷ tuple ∷ []) (λ u v w. let k = crossE (displacementE u v) (displacementE u w) in
    valueE (record { x = u.w ⊗ k.x; y = u.w ⊗ k.y; z = u.w ⊗ k.z; w = dotE k (vector_partE u) }) u ≈ num (pos 0)) cancels
    (spot_tuple u) (spot_tuple v) (spot_tuple w)

on_second : (u v w : Spot) → value_at (plane_of_points u v w) v ≡ pos 0
on_second u v w =
    identity (tuple ∷ tuple ∷ tuple ∷ []) (λ u v w. let k = crossE (displacementE u v) (displacementE u w) in
    valueE (record { x = u.w ⊗ k.x; y = u.w ⊗ k.y; z = u.w ⊗ k.z; w = dotE k (vector_partE u) }) v ≈ num (pos 0)) cancels
    (spot_tuple u) (spot_tuple v) (spot_tuple w)

on_third : (u v w : Spot) → value_at (plane_of_points u v w) w ≡ pos 0
on_third u v w =
    identity (tuple ∷ tuple ∷ tuple ∷ []) (λ u v w. let k = crossE (displacementE u v) (displacementE u w) in
    valueE (record { x = u.w ⊗ k.x; y = u.w ⊗ k.y; z = u.w ⊗ k.z; w = dotE k (vector_partE u) }) w ≈ num (pos 0)) cancels
    (spot_tuple u) (spot_tuple v) (spot_tuple w)

-- a triangle with an area faces the front of its plane
pub faces_own_front : (u v w : Spot) → pos 0 <ℤ u.w → is_zero_vector (triangle_normal u v w) ≡ false →
    FacesFront (plane_of_points u v w) u v w
faces_own_front u v w wu e =
    let k = triangle_normal u v w in record {
      first = on_first u v w;
      second = on_second u v w;
      third = on_third u v w;
      front = scaled_square k u.w wu (square_positive k (zero_not e));
    }
  where
    scaled_square : (k : Vector) (m : ℤ) → pos 0 <ℤ m → pos 0 <ℤ dot k k →
        pos 0 <ℤ (m *ℤ k.x *ℤ k.x +ℤ m *ℤ k.y *ℤ k.y +ℤ m *ℤ k.z *ℤ k.z)
    scaled_square k m p l =
        let q = pos_mul p l in
        let e = solve 4 (λ m x y z. m ⊗ (x ⊗ x ⊕ y ⊗ y ⊕ z ⊗ z) ≈ m ⊗ x ⊗ x ⊕ m ⊗ y ⊗ y ⊕ m ⊗ z ⊗ z) cancels m k.x k.y k.z in
        omega (arith, linear, q, e)

-- ---- winding numbers
-- the crossing of a triangle as it is seen from p
abbrev pub crossing_from : Axis → Spot → Positions Spot → ℤ
crossing_from a p t = seen_crossing a (displacement p t.a) (displacement p t.b) (displacement p t.c)

pub wind_is_seen : (a : Axis) (p : Spot) (ts : List (Positions Spot)) → pos 0 <ℤ p.w → AllByRecursion HasWeights ts →
    wind a (faces_of_triangles ts) p ≡ total (crossing_from a p) ts
wind_is_seen a p [] wp h = refl
wind_is_seen a p (t ∷ ts) wp h = by (has_no_area t) refl (wind_is_seen a p ts wp h.1)
  where
    by : (b : Bool) → has_no_area t ≡ b → wind a (faces_of_triangles ts) p ≡ total (crossing_from a p) ts →
        wind a (map face_of_corners (cond (not b) (t ∷ filter (λ t. not (has_no_area t)) ts)
        (filter (λ t. not (has_no_area t)) ts))) p ≡ crossing_from a p t +ℤ total (crossing_from a p) ts
    by true e r =
        let z = flat_is_not_crossed a p t.a t.b t.c wp h.0.a h.0.b h.0.c (zero_vector_out e) in omega (arith, linear, r, z)
    by false e r =
        let s = face_is_seen a p t.a t.b t.c wp h.0.a h.0.b h.0.c (plane_of_points t.a t.b t.c)
        (faces_own_front t.a t.b t.c h.0.a e) in λ i. s i +ℤ r i
