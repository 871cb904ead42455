-- What decides whether a triangle is near a box and near its halves.
use Rattle.std.proofs.Common.{◌≡◌, refl, sym, ap, ◌∙◌, Bool, true, false, ◌&&◌, ◌||◌, if◌then◌else◌, ℕ, ◌+◌, ◌<◌}
use Rattle.std.proofs.Common.{int_le, List, [], ◌∷◌, ◌++◌, filter, length, take, get_or, None, Some, Option}
use Rattle.std.proofs.lemmas.List.Elements.{filter_more}
use Rattle.ember_algebra.proofs.Booleans.{and_implied}
use Rattle.ember_model.specs.declared.tri.Tri.{Tri}
use Rattle.ember_model.specs.declared.plane.Plane.{Plane}
use Rattle.ember_model.specs.declared.point.Axis.{Axis}
use Rattle.ember_model.specs.Planes.{support_of}
use Rattle.ember_model.proofs.SignTests.{and_true}
use Rattle.ember_box.specs.declared.aabb.Aabb.{Aabb}
use Rattle.ember_box.specs.declared.half_boxes.HalfBoxes.{HalfBoxes}
use Rattle.ember_box.specs.Boxes.{Cell, low, left_half, right_half}
use Rattle.ember_box.specs.Near.{is_near}
use Rattle.ember_box.specs.Aabbs.{interval_along, aabb_of_cell, aabb_of_tri, aabbs_meet, contains_aabb, has_zero_extent, crosses}
use Rattle.ember_box.specs.Sums.{IsPlaneOf, may_cross, AreHalves, meets_left, meets_right}
use Rattle.ember_box.proofs.FlatAlongAxis.{zero_extent_crossed}
use Rattle.ember_box.proofs.NearByAabbs.{near_is, AreInside, are_inside, inside_crossed, left_crossed, right_crossed}
use Rattle.ember_box.proofs.HalvesMet.{left_meets, right_meets}

-- where a triangle without a plane is crossed by what its bounding box meets
crossed_by : (whole : Aabb) (c : Cell) (t : Tri) (p : Option Plane) → IsPlaneOf whole t p →
    (AreInside whole t → aabbs_meet (aabb_of_tri t) (aabb_of_cell c) ≡ true →
    crosses (support_of t) (aabb_of_cell c) ≡ true) →
    aabbs_meet (aabb_of_tri t) (aabb_of_cell c) && may_cross (aabb_of_cell c) p ≡ is_near c t
crossed_by whole c t p plane crossed = by p plane ∙ sym (near_is c t)
  where
    by : (p : Option Plane) → IsPlaneOf whole t p →
        aabbs_meet (aabb_of_tri t) (aabb_of_cell c)
        && may_cross (aabb_of_cell c) p ≡ aabbs_meet (aabb_of_tri t) (aabb_of_cell c)
        && crosses (support_of t) (aabb_of_cell c)
    by None e =
        and_true (aabbs_meet (aabb_of_tri t) (aabb_of_cell c))
        ∙ and_implied (aabbs_meet (aabb_of_tri t) (aabb_of_cell c)) (crosses (support_of t) (aabb_of_cell c))
        (λ o. or_either (has_zero_extent (aabb_of_tri t)) (contains_aabb whole (aabb_of_tri t)) e
        (λ l. zero_extent_crossed c t l o) (λ i. crossed (are_inside whole t i) o))
      where
        or_either : {P : Type 0} (p q : Bool) → p || q ≡ true → (p ≡ true → P) → (q ≡ true → P) → P
        or_either true q e f g = f refl
        or_either false q e f g = g e
    by (Some p) e = ap (λ q. aabbs_meet (aabb_of_tri t) (aabb_of_cell c) && crosses q (aabb_of_cell c)) e

-- ---- where the bounding box meets the box
module _ (c : Cell) (t : Tri) (p : Option Plane) (o : aabbs_meet (aabb_of_tri t) (aabb_of_cell c) ≡ true) (plane : IsPlaneOf (aabb_of_cell c) t p) where
  pub seen_whole : may_cross (aabb_of_cell c) p ≡ is_near c t
  seen_whole =
      sym (ap (λ b. b && may_cross (aabb_of_cell c) p) o) ∙ crossed_by (aabb_of_cell c) c t p plane (λ i _. inside_crossed t (aabb_of_cell c) i)

  -- whether the left half is met is whether the triangle is near it
  pub seen_low : (k : Axis) (h : HalfBoxes) → 0 < c.log k → AreHalves c k h → meets_left h (interval_along (aabb_of_tri t) k) p ≡ is_near (left_half c k) t
  seen_low k h above are =
      parts p ∙ (λ i. meets i && may_cross (are.is_left i) p) ∙ crossed_by (aabb_of_cell c) (left_half c k) t p plane (left_crossed c k t)
    where
      parts : (p : Option Plane) → meets_left h (interval_along (aabb_of_tri t) k) p ≡ int_le
          (interval_along (aabb_of_tri t) k).low h.middle && may_cross h.left p
      parts None = sym (and_true (int_le (interval_along (aabb_of_tri t) k).low h.middle))
      parts (Some p) = refl

      meets : int_le (interval_along (aabb_of_tri t) k).low h.middle ≡ aabbs_meet (aabb_of_tri t) (aabb_of_cell (left_half c k))
      meets =
          (λ i. sym o i && int_le (interval_along (aabb_of_tri t) k).low (are.is_middle i)) ∙ left_meets c k (aabb_of_tri t) above

  -- whether the right half is met is whether the triangle is near it
  pub seen_high : (k : Axis) (h : HalfBoxes) → 0 < c.log k → AreHalves c k h → meets_right h (interval_along (aabb_of_tri t) k) p ≡ is_near (right_half c k) t
  seen_high k h above are =
      parts p ∙ (λ i. meets i && may_cross (are.is_right i) p) ∙ crossed_by (aabb_of_cell c) (right_half c k) t p plane (right_crossed c k t above)
    where
      parts : (p : Option Plane) → meets_right h (interval_along (aabb_of_tri t) k) p ≡ int_le h.middle
          (interval_along (aabb_of_tri t) k).high && may_cross h.right p
      parts None = sym (and_true (int_le h.middle (interval_along (aabb_of_tri t) k).high))
      parts (Some p) = refl

      meets : int_le h.middle (interval_along (aabb_of_tri t) k).high ≡ aabbs_meet (aabb_of_tri t) (aabb_of_cell (right_half c k))
      meets =
          (λ i. sym o i && int_le (are.is_middle i) (interval_along (aabb_of_tri t) k).high) ∙ right_meets c k (aabb_of_tri t) above

-- ---- where it misses the box
module _ (c : Cell) (t : Tri) (o : aabbs_meet (aabb_of_tri t) (aabb_of_cell c) ≡ false) where
  pub far_whole : is_near c t ≡ false
  far_whole = near_is c t ∙ ap (λ b. b && crosses (support_of t) (aabb_of_cell c)) o

  pub far_low : (k : Axis) → 0 < c.log k → is_near (left_half c k) t ≡ false
  far_low k above =
      near_is (left_half c k) t ∙ ap (λ b. b && crosses (support_of t) (aabb_of_cell (left_half c k)))
      (sym (left_meets c k (aabb_of_tri t) above)
      ∙ ap (λ b. b && int_le (interval_along (aabb_of_tri t) k).low (low (right_half c k) k)) o)

  pub far_high : (k : Axis) → 0 < c.log k → is_near (right_half c k) t ≡ false
  far_high k above =
      near_is (right_half c k) t ∙ ap (λ b. b && crosses (support_of t) (aabb_of_cell (right_half c k)))
      (sym (right_meets c k (aabb_of_tri t) above)
      ∙ ap (λ b. b && int_le (low (right_half c k) k) (interval_along (aabb_of_tri t) k).high) o)

-- ---- a list of places
-- one more is looked at, and kept if the test holds
pub kept_more : (p : ℕ → Bool) (list : List ℕ) (i : ℕ) (old new : List ℕ) (b : Bool) → i < length list →
    old ≡ filter p (take i list) → b ≡ p (get_or list i 0) → new ≡ (if b then old ++ get_or list i 0 ∷ [] else old) →
    new ≡ filter p (take (i + 1) list)
kept_more p list i old new b l o t n = n ∙ by b ∙ (λ j. o j ++ (if t j then get_or list i 0 ∷ [] else [])) ∙ sym (filter_more p list i 0 l)
  where
    none : (xs : List ℕ) → xs ≡ xs ++ []
    none [] = refl
    none (x ∷ xs) = ap (λ (ys : List ℕ). x ∷ ys) (none xs)

    by : (b : Bool) → (if b then old ++ get_or list i 0 ∷ [] else old) ≡ old ++ (if b then get_or list i 0 ∷ [] else [])
    by true = refl
    by false = none old
