-- Whether a triangle is near a box, and near its halves along each axis, from its near parts.
use Rattle.std.proofs.Common.{◌≡◌, ◌⊎◌, inl, inr, refl, sym, ap, subst, ◌∙◌, arith, ℕ, ◌<◌, ◌≤◌, true, false, ◌&&◌}
use Rattle.std.proofs.Common.{int_le, None, List, [], ◌∷◌, ◌++◌, length, get_or}
use Rattle.std.proofs.Math.Seq.{get_or-append_seam}
use Rattle.std.proofs.lemmas.Bool.{cases_lt}
use Rattle.std.proofs.lemmas.List.{get_or_append_left, length-append}
use Rattle.ember_model.specs.declared.tri.Tri.{Tri}
use Rattle.ember_model.specs.declared.point.Axis.{Axis}
use Rattle.ember_model.specs.declared.point.Axis.TheVariants.{X, Y, Z}
use Rattle.ember_model.specs.Planes.{along, support_of}
use Rattle.ember_box.specs.declared.aabb.Margins.{Margins}
use Rattle.ember_box.specs.declared.half_boxes.HalfBoxes.{HalfBoxes}
use Rattle.ember_box.specs.declared.near_parts.Middle.{Middle}
use Rattle.ember_box.specs.declared.near_parts.NearPair.{NearPair}
use Rattle.ember_box.specs.declared.near_parts.NearParts.{NearParts}
use Rattle.ember_box.specs.Boxes.{Cell, low, left_half, right_half, in_steps}
use Rattle.ember_box.specs.Near.{is_near, tri_at}
use Rattle.ember_box.specs.Aabbs.{interval_along, aabb_of_cell, aabb_of_tri, aabbs_meet, crosses}
use Rattle.ember_box.specs.Sums.{IsPlaneOf, AreHalves}
use Rattle.ember_box.specs.NearParts.{IsMiddle, AreMargins, change_size, margin_of_left, margin_of_right, IsNearPair}
use Rattle.ember_box.specs.NearParts.{AreNearParts, AreNearPartsAt, no_pair, no_parts, pair_on}
use Rattle.ember_box.proofs.NearByAabbs.{near_is, left_near, right_near}
use Rattle.ember_box.proofs.HalvesMet.{left_meets, right_meets}
use Rattle.ember_box.proofs.HalfNearness.{seen_low, seen_high}
use Rattle.ember_box.proofs.HalfCrossing.{low_crossed, high_crossed}
use Rattle.ember_box.proofs.Lists.{false_by}
use Rattle.ember_box.proofs.InSteps.{above_in_steps, left_in_steps, right_in_steps}

-- ---- a triangle that isn't near the box
-- a triangle that isn't near a box isn't near its halves
pub none_near : (n : ℕ) (c : Cell) (t : Tri) → is_near (in_steps n c) t ≡ false → AreNearParts n c t no_parts
none_near n c t e = record { whole = sym e; x = pair X; y = pair Y; z = pair Z }
  where
    pair : (k : Axis) → 0 < c.log k → IsNearPair (in_steps n c) k t no_pair
    pair k may =
        let b = in_steps n c in let over = above_in_steps n c k may in
        record {
          left = sym (false_by (is_near (left_half b k) t) (is_near b t) (left_near b k t over) e);
          right = sym (false_by (is_near (right_half b k) t) (is_near b t) (right_near b k t over) e);
        }

-- ---- one whose bounding box meets the box
module _ (c : Cell) (t : Tri) (o : aabbs_meet (aabb_of_tri t) (aabb_of_cell c) ≡ true) where
  abbrev halves_at : Axis → HalfBoxes
  halves_at k = record { left = aabb_of_cell (left_half c k); right = aabb_of_cell (right_half c k); middle = low (right_half c k) k }

  are_halves : (k : Axis) → AreHalves c k (halves_at k)
  are_halves k = record { is_left = refl; is_right = refl; is_middle = refl }

  -- by its bounding box alone
  pub pair_by_span : (k : Axis) (i : Middle) (p : NearPair) → IsPlaneOf (aabb_of_cell c) t None → 0 < c.log k →
      IsMiddle c k i → p.left ≡ int_le (interval_along (aabb_of_tri t) k).low i.at →
      p.right ≡ int_le i.at (interval_along (aabb_of_tri t) k).high → IsNearPair c k t p
  pair_by_span k i p plane may are e f =
      record {
        left = e ∙ ap (λ m. int_le (interval_along (aabb_of_tri t) k).low m) are.place
            ∙ seen_low c t None o plane k (halves_at k) may (are_halves k);
        right =
            f ∙ ap (λ m. int_le m (interval_along (aabb_of_tri t) k).high) are.place
            ∙ seen_high c t None o plane k (halves_at k) may (are_halves k);
      }

  -- by its plane, which crosses the box
  module _ (m : Margins) (a : AreMargins (support_of t) (aabb_of_cell c) m) (x : crosses (support_of t) (aabb_of_cell c) ≡ true) where
    pub whole_by_plane : true ≡ is_near c t
    whole_by_plane = sym (near_is c t ∙ (λ i. o i && x i))

    pub pair_by_plane : (k : Axis) (i : Middle) (p : NearPair) → 0 < c.log k → IsMiddle c k i →
        p.left ≡ int_le (interval_along (aabb_of_tri t) k).low i.at
        && int_le (change_size (along (support_of t) k) i.half) (margin_of_left (along (support_of t) k) m) →
        p.right ≡ int_le i.at (interval_along (aabb_of_tri t) k).high
        && int_le (change_size (along (support_of t) k) i.half) (margin_of_right (along (support_of t) k) m) →
        IsNearPair c k t p
    pair_by_plane k i p may are e f =
        record {
          left = e ∙ (λ j. int_le (interval_along (aabb_of_tri t) k).low (are.place j)
              && low_crossed (support_of t) c m a x k i may are j)
              ∙ sym (near_is (left_half c k) t ∙ (λ j. left_meet j
              && crosses (support_of t) (aabb_of_cell (left_half c k))));
          right =
              f ∙ (λ j. int_le (are.place j) (interval_along (aabb_of_tri t) k).high
              && high_crossed (support_of t) c m a x k i may are j)
              ∙ sym (near_is (right_half c k) t ∙ (λ j. right_meet j
              && crosses (support_of t) (aabb_of_cell (right_half c k))));
        }
      where
        left_meet : aabbs_meet (aabb_of_tri t) (aabb_of_cell (left_half c k)) ≡ int_le (interval_along (aabb_of_tri t) k).low (low (right_half c k) k)
        left_meet =
            sym (left_meets c k (aabb_of_tri t) may) ∙ ap (λ b. b && int_le (interval_along (aabb_of_tri t) k).low (low (right_half c k) k)) o

        right_meet : aabbs_meet (aabb_of_tri t) (aabb_of_cell (right_half c k)) ≡ int_le (low (right_half c k) k) (interval_along (aabb_of_tri t) k).high
        right_meet =
            sym (right_meets c k (aabb_of_tri t) may) ∙ ap (λ b. b && int_le (low (right_half c k) k) (interval_along (aabb_of_tri t) k).high) o

-- the near parts along an axis are the near pair of the axis
pub pair_at : (n : ℕ) (c : Cell) (t : Tri) (p : NearParts) (k : Axis) → AreNearParts n c t p → 0 < c.log k →
    IsNearPair (in_steps n c) k t (pair_on k p)
pair_at n c t p X a may = a.x may
pair_at n c t p Y a may = a.y may
pair_at n c t p Z a may = a.z may

-- the same of the halves in steps
pub left_at : (n : ℕ) (c : Cell) (t : Tri) (p : NearParts) (k : Axis) → AreNearParts n c t p → 0 < c.log k →
    (pair_on k p).left ≡ is_near (in_steps n (left_half c k)) t
left_at n c t p k a may = (pair_at n c t p k a may).left ∙ ap (λ b. is_near b t) (left_in_steps n c k may)

pub right_at : (n : ℕ) (c : Cell) (t : Tri) (p : NearParts) (k : Axis) → AreNearParts n c t p → 0 < c.log k →
    (pair_on k p).right ≡ is_near (in_steps n (right_half c k)) t
right_at n c t p k a may = (pair_at n c t p k a may).right ∙ ap (λ b. is_near b t) (right_in_steps n c k may)

-- ---- one more place of a list
-- the near parts of one triangle more
pub parts_more : (n : ℕ) (ts : List Tri) (c : Cell) (is : List ℕ) (ps : List NearParts) (p : NearParts) →
    AreNearPartsAt n ts c is ps → AreNearParts n c (tri_at ts (get_or is (length ps) 0)) p →
    AreNearPartsAt n ts c is (ps ++ p ∷ [])
parts_more n ts c is ps p h one = record { each = λ i l. by i l (cases_lt i (length ps)) }
  where
    by : (i : ℕ) → i < length (ps ++ p ∷ []) → (i < length ps) ⊎ (length ps ≤ i) → AreNearParts n c (tri_at ts (get_or is i 0)) (get_or (ps ++ p ∷ []) i no_parts)
    by i l (inl m) = rw (get_or_append_left ps (p ∷ []) no_parts i m) (h.each i m)
    by i l (inr m) =
        let e : i ≡ length ps = omega (arith, length-append ps (p ∷ []), l, m) in
        subst (λ (j : ℕ). AreNearParts n c (tri_at ts (get_or is j 0)) (get_or (ps ++ p ∷ []) j no_parts)) (sym e) (rw (get_or-append_seam ps p [] no_parts) one)

-- the near parts of no triangle
pub parts_none : (n : ℕ) (ts : List Tri) (c : Cell) (is : List ℕ) → AreNearPartsAt n ts c is []
parts_none n ts c is = record { each = λ i l. absurd (omega (arith, l)) }
