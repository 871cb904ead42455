-- The crossing of a segment between two reference points, by the signs of a triangle's planes.
use Rattle.std.proofs.Common.{◌≡◌, ℕ, zero, suc, pred, ◌^◌, ◌<◌, ◌≤◌, lit<, refl, sym, ap, ◌∙◌, arith, Bool, true, false, cond, ◌&&◌, List, [], ◌∷◌, All, get_or, ℤ, pos, ◌<ℤ◌}
use Rattle.std.proofs.lemmas.List.Elements.{All-head, All-tail}
use borrow.Author.Differences.{ints}
use Rattle.ember_algebra.specs.Vector.{Vector}
use Rattle.ember_algebra.specs.Size.{Small}
use Rattle.ember_algebra.specs.declared.Sign.{Sign}
use Rattle.ember_algebra.specs.Sign.{sgn, number, times, is_neg}
use Rattle.ember_algebra.proofs.Laws.{linear}
use Rattle.ember_algebra.proofs.Order.{pos_mul}
use Rattle.ember_algebra.proofs.Size.{small_within}
use Rattle.ember_algebra.proofs.Signs.{sgn-mul}
use Rattle.ember_algebra.proofs.Booleans.{cond_and_nested}
use Rattle.ember_model.specs.declared.point.Axis.{Axis}
use Rattle.ember_model.specs.declared.point.Axis.TheVariants.{X, Y, Z}
use Rattle.ember_model.specs.declared.plane.Plane.{Plane}
use Rattle.ember_model.specs.declared.tri.Tri.{Tri}
use Rattle.ember_model.specs.Planes.{value_at, support_of, edge_planes}
use Rattle.ember_model.specs.Points.{offset_by, DifferAlong}
use Rattle.ember_model.specs.Faces.{face_of, leg}
use Rattle.ember_model.specs.ClearTest.{all_negative}
use Rattle.ember_model.proofs.PlaneValues.{sign-number}
use Rattle.ember_model.proofs.LegSigns.{leg_is}
use Rattle.ember_box.specs.Boxes.{Cell, shifted_by, right_half}
use Rattle.ember_box.specs.Near.{spot_of_vector}
use Rattle.ember_box.specs.Reference.{reference_beside, reference_at}
use Rattle.ember_ref.specs.References.{vector_of_list, reference_of_list, IsBoxCornerWithin}

-- ---- reference points
pub box_corner : {m : ℕ} (cs : List ℤ) → All (Small m) cs → IsBoxCornerWithin m (vector_of_list cs)
box_corner {m} cs h = record { x = at cs 0 h; y = at cs 1 h; z = at cs 2 h }
  where
    at : (cs : List ℤ) (i : ℕ) → All (Small m) cs → Small m (get_or cs i (pos 0))
    at [] i h = record { small = omega arith }
    at (c ∷ cs) zero h = All-head (Small m) c cs h
    at (c ∷ cs) (suc i) h = at cs i (All-tail (Small m) c cs h)

-- a corner within a limit is within each greater one
pub corner_within : {m n : ℕ} {v : Vector} → m ≤ n → IsBoxCornerWithin m v → IsBoxCornerWithin n v
corner_within l s = record { x = small_within l s.x; y = small_within l s.y; z = small_within l s.z }

pub weight_near : (m : ℤ) (v : Vector) → pos 0 <ℤ m → pos 0 <ℤ (offset_by (spot_of_vector v) m).w
weight_near m v l = pos_mul (pos_mul (pos_mul l l) l) (omega (arith, linear))

-- a reference point has a positive weight
pub weight_beside : (f : ℕ) (v : Vector) → 0 < f → pos 0 <ℤ (reference_beside f v).w
weight_beside f v l = weight_near (pos f) v (omega (arith, ints, l))

pub weight_at : (v : Vector) → pos 0 <ℤ (reference_at v).w
weight_at v = weight_beside (2 ^ 27) v (lit< tt)

weight_of : (f : ℕ) (lo : List ℤ) → 0 < f → pos 0 <ℤ (reference_of_list f lo).w
unfolding reference_of_list
weight_of f lo l = weight_beside f (vector_of_list lo) l

differ_along : (m : ℤ) (k : Axis) (by : ℤ) (v : Vector) → DifferAlong k (offset_by (spot_of_vector (shifted_by k by v)) m) (offset_by (spot_of_vector v) m)
differ_along m X by v = (refl, refl)
differ_along m Y by v = (refl, refl)
differ_along m Z by v = (refl, refl)

-- the reference point by a list of coordinates is that beside the corner with these coordinates
pub beside_is : (f : ℕ) (lo : List ℤ) (v : Vector) → vector_of_list lo ≡ v → reference_of_list f lo ≡ reference_beside f v
unfolding reference_of_list
beside_is f lo v e = ap (λ w. reference_beside f w) e

-- the reference points of a box and its right half
pub halves_differ : (f : ℕ) (c : Cell) (k : Axis) → DifferAlong k (reference_beside f (right_half c k).lo) (reference_beside f c.lo)
halves_differ f c k = differ_along (pos f) k (pos (2 ^ pred (c.log k))) c.lo

-- ---- the crossing
-- where n is the support plane, s and e its signs at the ends, and v what they tell
pub leg_told : (f : ℕ) (k : Axis) (p q : List ℤ) (t : Tri) (n : Plane) (s e : Sign) (v : ℤ) → 0 < f →
    DifferAlong k (reference_of_list f p) (reference_of_list f q) → n ≡ support_of t →
    s ≡ sgn (value_at n (reference_of_list f p)) → e ≡ sgn (value_at n (reference_of_list f q)) →
    v ≡ cond (is_neg (times s e)) (number e) (pos 0) →
    leg (face_of t) (reference_of_list f p) (reference_of_list f q) ≡ cond
    (all_negative (edge_planes t k) (reference_of_list f p)) v (pos 0)
leg_told f k p q t n s e v above d en es ee ev =
    let x = value_at (support_of t) (reference_of_list f p) in let y = value_at (support_of t) (reference_of_list f q) in
    let b = all_negative (edge_planes t k) (reference_of_list f p) in
    let sx = es ∙ ap (λ (n : Plane). sgn (value_at n (reference_of_list f p))) en in let sy =
    ee ∙ ap (λ (n : Plane). sgn (value_at n (reference_of_list f q))) en in
    let m = ap is_neg (sgn-mul x y) in let r = sign-number y in
    let told = ev ∙ (λ i. cond (is_neg (times (sx i) (sy i))) (number (sy i)) (pos 0)) in
    leg_is k (reference_of_list f p) (reference_of_list f q) t (weight_of f p above) (weight_of f q above) d
    ∙ (λ i. cond (m i && b) (r i) (pos 0)) ∙ cond_and_nested (is_neg (times (sgn x) (sgn y))) b (number (sgn y))
    ∙ ap (λ (v : ℤ). cond b v (pos 0)) (sym told)

-- 0 is what a condition gives if both its branches are 0
pub nothing_told : (b : Bool) (v : ℤ) → v ≡ pos 0 → pos 0 ≡ cond b v (pos 0)
nothing_told true v e = sym e
nothing_told false v e = refl
