-- A triangle strictly on one side of a face's plane doesn't meet the face.
use Rattle.std.proofs.Common.{◌≡◌, inl, inr, subst, false, List, [], ◌∷◌, ◌++◌, arith, ℤ, pos, ◌*ℤ◌, ◌<ℤ◌, ◌≤ℤ◌}
use Rattle.std.specs.List.{AllByRecursion}
use Rattle.ember_algebra.proofs.Laws.{linear}
use Rattle.ember_algebra.proofs.Ring.{◌⊗◌, num, ◌≈◌, solve, cancels}
use Rattle.ember_algebra.proofs.Order.{cancel_lt, mul_neg_pos}
use Rattle.ember_model.specs.declared.plane.Plane.{Plane}
use Rattle.ember_model.specs.declared.point.Spot.{Spot}
use Rattle.ember_model.specs.declared.tri.Tri.{Tri}
use Rattle.ember_model.specs.declared.face.Face.{Face}
use Rattle.ember_model.specs.Planes.{value_at, opposite, support_of}
use Rattle.ember_model.specs.Faces.{Meets, is_flat, face_of, edges_of}
use Rattle.ember_poly.specs.Rings.{Side, IsBelow, IsInClosedRing, IsConvexRing}
use Rattle.ember_poly.specs.Chords.{IsOnOneSide}
use Rattle.ember_poly.proofs.Chains.{each-back}
use Rattle.ember_poly.proofs.RingBelow.{Rooted}
use Rattle.ember_poly.proofs.Hull.{ring-rooted, Best, find_best, best_above}
use Rattle.ember_poly.proofs.Face.{closed_from_face}
use Rattle.ember_poly.proofs.FaceTests.{inside_out, closed_out}
use Rattle.ember_poly.proofs.TriangleRing.{tri_sides, stands}
use Rattle.ember_poly.proofs.ReachBySigns.{over_opposite, over_from_opposite}

-- a plane that is negative at each corner is negative at each closed point
corners_negative : (n p : Plane) (x : Spot) (xs : List Side) → IsConvexRing n xs →
    AllByRecursion (λ r. IsBelow p r.corner) xs → IsInClosedRing n xs x → IsBelow p x
corners_negative n p x [] h a k = absurd h
corners_negative n p x (s ∷ xs) h a k = by (find_best n p s xs (ring-rooted n (s ∷ xs) h))
  where
    fall : (px cw pc xw : ℤ) → pos 0 <ℤ cw → pos 0 <ℤ xw → pc <ℤ pos 0 → (px *ℤ cw) ≤ℤ (pc *ℤ xw) → px <ℤ pos 0
    fall px cw pc xw p q r h =
        cancel_lt p (omega (
          arith,
          linear,
          h,
          mul_neg_pos r q,
          solve 2 (λ cw px. cw ⊗ px ≈ px ⊗ cw) cancels cw px,
          solve 1 (λ cw. cw ⊗ num (pos 0) ≈ num (pos 0)) cancels cw,
        ))

    by : Best p (s ∷ xs) → IsBelow p x
    by b =
        let a' : AllByRecursion (λ r. IsBelow p r.corner) (b.before ++ b.at ∷ b.behind) = rw (← b.split) a in
        let w' : AllByRecursion (λ r. Rooted n r) (b.before ++ b.at ∷ b.behind) = rw (← b.split) (ring-rooted n (s ∷ xs) h) in
        let here = (each-back (λ r. IsBelow p r.corner) b.before (b.at ∷ b.behind) a').0 in
        let root = (each-back (λ r. Rooted n r) b.before (b.at ∷ b.behind) w').0 in
        record {
          under = fall (value_at p x) b.at.corner.w (value_at p b.at.corner) x.w root.weight k.weight here.under
              (best_above n p x (s ∷ xs) b h k).not_above;
        }

-- a face doesn't meet a triangle strictly on one side of its plane
pub one_side_meets_not : (f : Face) (n : Plane) (t : Tri) → f.support ≡ n → is_flat t ≡ false → IsOnOneSide n t → Meets f (face_of t) → ⊥
unfolding face_of
one_side_meets_not f n t e full s m = by s
  where
    flat : value_at n m.at ≡ pos 0
    flat = subst (λ p. value_at p m.at ≡ pos 0) e (inside_out f m.at m.inside).flat

    closed : IsInClosedRing (support_of t) (tri_sides t) m.at
    closed =
        closed_from_face (support_of t) (edges_of t) (tri_sides t) m.at (stands t full) (closed_out (face_of t) m.at m.holds)

    below : (p : Plane) → AllByRecursion (λ r. IsBelow p r.corner) (tri_sides t) → IsBelow p m.at
    below p a = corners_negative (support_of t) p m.at (tri_sides t) (stands t full).sound a closed

    by : IsOnOneSide n t → ⊥
    by (inl o) =
        let u = over_from_opposite n m.at (below (opposite n) (over_opposite n _ o.0, (over_opposite n _ o.1, (over_opposite n _ o.2, tt)))) in
        absurd (omega (arith, linear, u.over, flat))
    by (inr u) = absurd (omega (arith, linear, (below n (u.0, (u.1, (u.2, tt)))).under, flat))
