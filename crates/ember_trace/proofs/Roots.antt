-- A whole number that is moved into the root lies in the same bounding boxes as before.
use Rattle.std.proofs.Common.{◌≡◌, refl, sym, ap, ◌∙◌, subst, arith, ℕ, ◌+◌, ◌*◌, ◌^◌, ◌≤◌, Bool, true, false, ◌&&◌, cond, ℤ, pos, ◌*ℤ◌, ◌≤ℤ◌, ◌<ℤ◌}
use Rattle.std.proofs.Common.{neg_ℤ, int_le, int_lt, unsigned_abs}
use Rattle.std.specs.Int.{int_max}
use Rattle.std.proofs.lemmas.Int.{clamps}
use Rattle.std.proofs.lemmas.Nat.{pow_pos}
use borrow.Author.Differences.{ints}
use Rattle.ember_algebra.specs.Size.{Small}
use Rattle.ember_algebra.proofs.Size.{small_neg, small_mul, small_within}
use Rattle.ember_algebra.proofs.Numbers.{int_lt_out}
use Rattle.ember_model.specs.declared.point.Axis.{Axis}
use Rattle.ember_model.specs.Within.{IsTriWithin}
use Rattle.ember_width.specs.declared.width.Width.{Ghosts}
use Rattle.ember_width.specs.RootFloors.{moved_within}
use Rattle.ember_box.specs.declared.aabb.Interval.{Interval}
use Rattle.ember_box.specs.declared.aabb.Aabb.{Aabb}
use Rattle.ember_box.specs.Aabbs.{interval_along, aabb_of_tri, most_wall}
use Rattle.ember_box.proofs.InSteps.{unit_small}
use Rattle.ember_trace.specs.declared.near_triangle.NearTriangle.{NearTriangle}
use Rattle.ember_trace.specs.Crossings.{may_contain, begins_by}
use Rattle.ember_trace.proofs.SegmentsPast.{low_small, high_small}

-- the root reaches at most 524,288 steps to each side
pub half_small : {n : ℕ} {u : ℤ} → u ≡ pos (2 ^ n) → n ≤ 8 → Small most_wall (pos 2048 *ℤ u)
half_small e l = small_within (omega arith) (small_mul two_thousand (unit_small e l))
  where
    two_thousand : Small 2048 (pos 2048)
    two_thousand = record { small = omega arith }

-- a root that ends at a wall of the grid of units is above 0
pub corner_above : (n : ℕ) {m : ℕ} → 2 ^ n * 2048 ≤ m + 1 → 1 ≤ m
corner_above n l = omega (arith, l, pow_pos n)

-- moved into the interval from -h to h, or already there
data RootCase (h z : ℤ) : Type 0 where
  below : z <ℤ neg_ℤ h → moved_within h z ≡ neg_ℤ h → RootCase h z
  above : h <ℤ z → moved_within h z ≡ h → RootCase h z
  within : neg_ℤ h ≤ℤ z → z ≤ℤ h → moved_within h z ≡ z → RootCase h z

not_less : (a b : ℤ) → int_lt a b ≡ false → b ≤ℤ a
not_less a b e = grind (arith, ints)

root_case : (h z : ℤ) → RootCase h z
root_case h z = by (int_lt z (neg_ℤ h)) (int_lt h z) refl refl
  where
    first : {l : Bool} → int_lt z (neg_ℤ h) ≡ l → moved_within h z ≡ cond l (neg_ℤ h) (cond (int_lt h z) h z)
    first el = ap (λ b. cond b (neg_ℤ h) (cond (int_lt h z) h z)) el

    by : (l g : Bool) → int_lt z (neg_ℤ h) ≡ l → int_lt h z ≡ g → RootCase h z
    by true g el eg = below (int_lt_out z (neg_ℤ h) el) (first el)
    by false true el eg = above (int_lt_out h z eg) (first el ∙ ap (λ b. cond b h z) eg)
    by false false el eg = within (not_less z (neg_ℤ h) el) (not_less h z eg) (first el ∙ ap (λ b. cond b h z) eg)

-- a number that is moved into the root is as small as the root
pub root_small : (n : ℕ) (h z : ℤ) → Small n h → Small n (moved_within h z)
root_small n h z s = by (root_case h z)
  where
    small_between : neg_ℤ h ≤ℤ z → z ≤ℤ h → unsigned_abs h ≤ n → unsigned_abs z ≤ n
    small_between a b l = omega (arith, ints, a, b, l)

    by : RootCase h z → Small n (moved_within h z)
    by (below o e) = subst (λ (b : ℤ). Small n b) (sym e) (small_neg s)
    by (above o e) = subst (λ (b : ℤ). Small n b) (sym e) s
    by (within a b e) = subst (λ (b : ℤ). Small n b) (sym e) (record { small = small_between a b s.small })

-- of coordinates of at most m in size, where the root reaches further
module _ {m : ℕ} (h : ℤ) (r : pos m <ℤ h) where
  same_contained : (s : Interval) (z : ℤ) → Small m s.low → Small m s.high → may_contain s (moved_within h z) ≡ may_contain s z
  same_contained s z l u = by (root_case h z)
    where
      yes : (a b : ℤ) → a ≤ℤ b → int_le a b ≡ true
      yes a b e = grind (arith, ints)

      no : (a b : ℤ) → b <ℤ a → int_le a b ≡ false
      no a b e = grind (arith, ints)

      left : (x y : ℤ) → int_le s.low x ≡ false → int_le s.low y ≡ false → may_contain s x ≡ may_contain s y
      left x y p q = (λ i. p i && int_le x s.high) ∙ sym (λ i. q i && int_le y s.high)

      right : (x y : ℤ) → int_le s.low x ≡ true → int_le s.low y ≡ true → int_le x s.high ≡ false → int_le y s.high ≡ false → may_contain s x ≡ may_contain s y
      right x y p q v w = (λ i. p i && v i) ∙ sym (λ i. q i && w i)

      by : RootCase h z → may_contain s (moved_within h z) ≡ may_contain s z
      by (below o e) =
          ap (λ x. may_contain s x) e ∙ left (neg_ℤ h) z (no s.low (neg_ℤ h) (omega (arith, ints, l.small, r)))
          (no s.low z (omega (arith, ints, l.small, o, r)))
      by (above o e) =
          ap (λ x. may_contain s x) e ∙ right h z (yes s.low h (omega (arith, ints, l.small, r)))
          (yes s.low z (omega (arith, ints, l.small, o, r))) (no h s.high (omega (arith, ints, u.small, r)))
          (no z s.high (omega (arith, ints, u.small, o, r)))
      by (within a b e) = ap (λ x. may_contain s x) e

  -- an interval begins as before by the greater of the moved number and another one
  same_begin : (s : Interval) (z c : ℤ) → Small m s.low → begins_by s (int_max (moved_within h z) c) ≡ begins_by s (int_max z c)
  same_begin s z c l = by (int_le s.low (int_max (moved_within h z) c)) (int_le s.low (int_max z c))
      refl refl
    where
      at_most : (a b : ℤ) → int_le a b ≡ true → a ≤ℤ b
      at_most a b e = grind (arith, ints)

      not_at_most : (a b : ℤ) → int_le a b ≡ false → b <ℤ a
      not_at_most a b e = grind (arith, ints)

      both_less : (a b d : ℤ) → int_max a b <ℤ d → (a <ℤ d) × (b <ℤ d)
      both_less a b d k = (omega (arith, ints, clamps), omega (arith, ints, clamps))

      neither : (a b d : ℤ) → a <ℤ d → b <ℤ d → int_max a b <ℤ d
      neither a b d p q = omega (arith, ints, clamps)

      moved_down : RootCase h z → z <ℤ s.low → moved_within h z <ℤ s.low
      moved_down (below o e) k = omega (arith, ints, l.small, r, e)
      moved_down (above o e) k = absurd (omega (arith, ints, l.small, r, o, k))
      moved_down (within a b e) k = omega (arith, ints, e, k)

      moved_back : RootCase h z → moved_within h z <ℤ s.low → z <ℤ s.low
      moved_back (below o e) k = omega (arith, ints, l.small, r, o)
      moved_back (above o e) k = absurd (omega (arith, ints, l.small, r, e, k))
      moved_back (within a b e) k = omega (arith, ints, e, k)

      by : (x y : Bool) → int_le s.low (int_max (moved_within h z) c) ≡ x → int_le s.low (int_max z c) ≡ y →
          begins_by s (int_max (moved_within h z) c) ≡ begins_by s (int_max z c)
      by true true p q = p ∙ sym q
      by false false p q = p ∙ sym q
      by true false p q =
          let k = both_less z c s.low (not_at_most s.low (int_max z c) q) in
          absurd (let u = at_most s.low (int_max (moved_within h z) c) p in let v =
          neither (moved_within h z) c s.low (moved_down (root_case h z) k.0) k.1 in omega (arith, ints, u, v))
      by false true p q =
          let k = both_less (moved_within h z) c s.low (not_at_most s.low (int_max (moved_within h z) c) p) in
          absurd (let u = at_most s.low (int_max z c) q in let v = neither z c s.low (moved_back (root_case h z) k.0) k.1 in omega (arith, ints, u, v))

  -- of the bounding box of a near triangle
  module _ {W M : Type 0} {G : Ghosts W M} (f : NearTriangle W M G) (v : IsTriWithin m f.tri) (k : Axis) where
    -- it contains the moved number if it contains the number
    pub contained_in_root : (at z : ℤ) → at ≡ moved_within h z → may_contain (interval_along f.aabb k) at ≡ may_contain (interval_along f.aabb k) z
    contained_in_root at z e =
        ap (λ x. may_contain (interval_along f.aabb k) x) e
        ∙ ap (λ (b : Aabb). may_contain (interval_along b k) (moved_within h z)) f.bounds
        ∙ same_contained (interval_along (aabb_of_tri f.tri) k) z (low_small f.tri k v) (high_small f.tri k v)
        ∙ ap (λ (b : Aabb). may_contain (interval_along b k) z) (sym f.bounds)

    -- it begins by the greater of the moved number and another one if it does so without the move
    pub begun_in_root : (at z c : ℤ) → at ≡ int_max (moved_within h z) c →
        begins_by (interval_along f.aabb k) at ≡ begins_by (interval_along f.aabb k) (int_max z c)
    begun_in_root at z c e =
        ap (λ x. begins_by (interval_along f.aabb k) x) e
        ∙ ap (λ (b : Aabb). begins_by (interval_along b k) (int_max (moved_within h z) c)) f.bounds
        ∙ same_begin (interval_along (aabb_of_tri f.tri) k) z c (low_small f.tri k v)
        ∙ ap (λ (b : Aabb). begins_by (interval_along b k) (int_max z c)) (sym f.bounds)
