-- Points of a triangle's face: what planes say at the corners, they say at the points.
use Rattle.std.proofs.Common.{◌≡◌, ◌⊎◌, refl, sym, subst, arith, true, false, ℤ, pos, ◌+ℤ◌, ◌-ℤ◌, ◌<ℤ◌, ◌≤ℤ◌}
use Rattle.ember_algebra.proofs.Laws.{linear}
use Rattle.ember_algebra.proofs.Ring.{◌⊕◌, ◌⊖◌, ◌⊗◌, num, ◌≈◌, solve, cancels}
use Rattle.ember_model.specs.declared.plane.Plane.{Plane}
use Rattle.ember_model.specs.declared.point.Spot.{Spot}
use Rattle.ember_model.specs.declared.tri.Tri.{Tri}
use Rattle.ember_model.specs.Planes.{value_at, support_of, opposite}
use Rattle.ember_model.specs.Faces.{is_flat, face_of, is_inside, is_in_closed, Somewhere}
use Rattle.ember_model.specs.Owners.{spot_of_corner}
use Rattle.ember_poly.specs.Rings.{IsBelow, IsAbove, IsNotAbove, IsNotBelow, IsOnPlane, IsInsideRing, IsInClosedRing}
use Rattle.ember_poly.proofs.Hull.{corners_at_most}
use Rattle.ember_poly.proofs.ReachBySigns.{all_below, all_above, all_on, most_opposite, least_from_opposite, some_inside}
use Rattle.ember_poly.proofs.TriangleRing.{tri_sides, stands}
use Rattle.ember_poly.proofs.FaceTests.{inside_in, closed_in, closed_out}

-- what holds at the three corners, and what at one of them
abbrev pub AtCorners : (Spot → Type 0) → Tri → Type 0
AtCorners Q t = Q (spot_of_corner t.a) × (Q (spot_of_corner t.b) × (Q (spot_of_corner t.c) × Unit {0}))

abbrev pub AtCorner : (Spot → Type 0) → Tri → Type 0
AtCorner Q t = Q (spot_of_corner t.a) ⊎ (Q (spot_of_corner t.b) ⊎ (Q (spot_of_corner t.c) ⊎ ⊥))

-- ---- the points of the face as those of a ring
-- a point of a triangle's closed face is in its closed ring
pub closed_ring : (t : Tri) (v : Spot) → is_in_closed (face_of t) v ≡ true → IsInClosedRing (support_of t) (tri_sides t) v
unfolding face_of
closed_ring t v e =
    let k = closed_out (face_of t) v e in record { flat = k.flat; weight = k.weight; within = k.within }

-- a point inside a triangle's ring is inside its face
pub ring_inside : (t : Tri) (v : Spot) → IsInsideRing (support_of t) (tri_sides t) v → is_inside (face_of t) v ≡ true
unfolding face_of
ring_inside t v k = inside_in (face_of t) v (record { flat = k.flat; weight = k.weight; within = k.within })

-- a point in the closed ring of a triangle's edges is in the closed face
pub ring_closed : (t : Tri) (v : Spot) → IsInClosedRing (support_of t) (tri_sides t) v → is_in_closed (face_of t) v ≡ true
unfolding face_of
ring_closed t v k = closed_in (face_of t) v (record { flat = k.flat; weight = k.weight; within = k.within })

-- the face of a triangle that isn't flat has an inside point
pub has_inside : (t : Tri) → is_flat t ≡ false → Somewhere (face_of t) (λ v. Unit {0})
has_inside t n =
    let k = some_inside (support_of t) (tri_sides t) (stands t n).sound in
    record { at = k.point; inside = ring_inside t k.point k.inside; holds = tt }

-- ---- what planes say
module _ (t : Tri) (n : is_flat t ≡ false) (p : Plane) (v : Spot) where
  closed_at_most : AtCorners (λ s. IsNotAbove p s) t → IsInClosedRing (support_of t) (tri_sides t) v → IsNotAbove p v
  closed_at_most h k = corners_at_most (support_of t) p v (tri_sides t) (stands t n).sound h k

  -- if no corner is above a plane and one is below, the inside is below
  pub inside_under : AtCorners (λ s. IsNotAbove p s) t → AtCorner (λ s. IsBelow p s) t → IsInsideRing (support_of t) (tri_sides t) v → IsBelow p v
  inside_under h u k = all_below (support_of t) p v (tri_sides t) (stands t n).sound h u k

  -- if no corner is below a plane and one is above, the inside is above
  pub inside_over : AtCorners (λ s. IsNotBelow p s) t → AtCorner (λ s. IsAbove p s) t → IsInsideRing (support_of t) (tri_sides t) v → IsAbove p v
  inside_over h u k = all_above (support_of t) p v (tri_sides t) (stands t n).sound h u k

  -- if all corners are on a plane, the closed ring is
  pub closed_on : AtCorners (λ s. IsOnPlane p s) t → IsInClosedRing (support_of t) (tri_sides t) v → IsOnPlane p v
  closed_on h k = all_on (support_of t) p v (tri_sides t) (stands t n).sound h k

-- if no corner is below a plane, the closed ring isn't
pub closed_at_least : (t : Tri) (n : is_flat t ≡ false) (p : Plane) (v : Spot) → AtCorners (λ s. IsNotBelow p s) t →
    IsInClosedRing (support_of t) (tri_sides t) v → IsNotBelow p v
closed_at_least t n p v h k =
    least_from_opposite p v (closed_at_most t n (opposite p) v (
      most_opposite p (spot_of_corner t.a) h.0,
      (most_opposite p (spot_of_corner t.b) h.1.0, (most_opposite p (spot_of_corner t.c) h.1.1.0, tt)),
    ) k)

-- strictly in front at all corners: the plane moved a little is not behind them
moved_value : (p : Plane) (s : Spot) → value_at (record p { d = p.d +ℤ pos 1 }) s ≡ value_at p s -ℤ s.w
moved_value p s =
    solve 8 (λ a b c d x y z w. a ⊗ x ⊕ b ⊗ y ⊕ c ⊗ z ⊖ (d ⊕ num (pos 1)) ⊗ w ≈ (a ⊗ x ⊕ b ⊗ y ⊕ c ⊗ z ⊖ d ⊗ w) ⊖ w) cancels p.a p.b p.c p.d s.x s.y s.z s.w

moved_least : (p : Plane) (s : Spot) → s.w ≡ pos 1 → IsAbove p s → IsNotBelow (record p { d = p.d +ℤ pos 1 }) s
moved_least p s e o =
    record { at_least = subst (λ (z : ℤ). pos 0 ≤ℤ z) (sym (moved_value p s)) (less e o.over) }
  where
    less : {a w : ℤ} → w ≡ pos 1 → pos 0 <ℤ a → pos 0 ≤ℤ (a -ℤ w)
    less e q = omega (arith, linear, e, q)

-- if all corners are above a plane, the closed ring is
pub closed_over : (t : Tri) (n : is_flat t ≡ false) (p : Plane) (v : Spot) → AtCorners (λ s. IsAbove p s) t →
    IsInClosedRing (support_of t) (tri_sides t) v → IsAbove p v
closed_over t n p v h k =
    let m = closed_at_least t n (record p { d = p.d +ℤ pos 1 }) v (
      moved_least p (spot_of_corner t.a) refl h.0,
      (moved_least p (spot_of_corner t.b) refl h.1.0, (moved_least p (spot_of_corner t.c) refl h.1.1.0, tt)),
    ) k in
    let q : pos 0 ≤ℤ (value_at p v -ℤ v.w) = rw (← moved_value p v) m.at_least in
    record { over = more q k.weight }
  where
    more : {a w : ℤ} → pos 0 ≤ℤ (a -ℤ w) → pos 0 <ℤ w → pos 0 <ℤ a
    more q r = omega (arith, linear, q, r)
