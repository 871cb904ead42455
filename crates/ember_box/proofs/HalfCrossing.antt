-- A plane that crosses a box crosses a half of it if its constant lies far enough from the plane's least
-- or greatest value over the box.
use Rattle.std.proofs.Common.{◌≡◌, sym, ap, ◌∙◌, arith, ◌^◌, ◌<◌, pred, Bool, true, false, ◌&&◌, if◌then◌else◌, ℤ, pos, ◌+ℤ◌, ◌-ℤ◌, ◌*ℤ◌, neg_ℤ, int_le}
use Rattle.std.proofs.lemmas.Bool.{and_parts}
use Rattle.ember_algebra.specs.Sign.{is_negative}
use Rattle.ember_algebra.proofs.Laws.{linear}
use Rattle.ember_algebra.proofs.Ring.{◌⊕◌, ◌⊗◌, ◌≈◌, solve, cancels}
use Rattle.ember_algebra.proofs.Booleans.{and_with_true, same_test}
use Rattle.ember_algebra.proofs.Numbers.{int_le_in, int_le_out}
use Rattle.ember_model.specs.declared.plane.Plane.{Plane}
use Rattle.ember_model.specs.declared.point.Axis.{Axis}
use Rattle.ember_model.specs.declared.point.Axis.TheVariants.{X, Y, Z}
use Rattle.ember_model.specs.Planes.{along}
use Rattle.ember_box.specs.declared.aabb.Aabb.{Aabb}
use Rattle.ember_box.specs.declared.aabb.Margins.{Margins}
use Rattle.ember_box.specs.declared.near_parts.Middle.{Middle}
use Rattle.ember_box.specs.Boxes.{Cell, low, high, left_half, right_half}
use Rattle.ember_box.specs.Aabbs.{aabb_of_cell, least_value, greatest_value, crosses}
use Rattle.ember_box.specs.NearParts.{IsMiddle, AreMargins, change_size, margin_of_left, margin_of_right}
use Rattle.ember_box.proofs.NearByAabbs.{halves_end}

-- ---- tests
-- two tests with one difference are one
same_le : (a b x y : ℤ) → b -ℤ a ≡ y -ℤ x → int_le a b ≡ int_le x y
same_le a b x y e = same_test (int_le a b) (int_le x y) onward backward
  where
    onward : int_le a b ≡ true → int_le x y ≡ true
    onward t = let l = int_le_out a b t in int_le_in x y (omega (arith, linear, e, l))

    backward : int_le x y ≡ true → int_le a b ≡ true
    backward t = let l = int_le_out x y t in int_le_in a b (omega (arith, linear, e, l))

true_with : (b t : Bool) → t ≡ true → b ≡ t && b
true_with b t e = sym (ap (λ (s : Bool). s && b) e)

-- a plane crosses a box if neither margin is negative
pub margins_cross : (p : Plane) (b : Aabb) (m : Margins) → AreMargins p b m → int_le (pos 0) m.above && int_le (pos 0) m.below ≡ crosses p b
unfolding crosses
margins_cross p b m a =
    let above = same_le (pos 0) m.above (least_value p b) p.d (omega (arith, linear, a.above)) in
    let below = same_le (pos 0) m.below p.d (greatest_value p b) (omega (arith, linear, a.below)) in
    λ i. above i && below i

-- the least and the greatest value of a half, by those of the whole: l and g, and by the growth q over a half
low_test : (s : Bool) (l g d q above below l' g' : ℤ) → above ≡ d -ℤ l → below ≡ g -ℤ d →
    l' ≡ l -ℤ (if s then q else pos 0) → g' ≡ g -ℤ (if s then pos 0 else q) → int_le l d ≡ true → int_le d g ≡ true →
    int_le (if s then neg_ℤ q else q) (if s then above else below) ≡ int_le l' d && int_le d g'
low_test true l g d q above below l' g' a b e f m n =
    same_le (neg_ℤ q) above l' d (omega (arith, linear, a, e)) ∙ and_with_true (int_le l' d) (int_le d g') (same_le d g' d g (omega (arith, linear, f)) ∙ n)
low_test false l g d q above below l' g' a b e f m n =
    same_le q below d g' (omega (arith, linear, b, f)) ∙ true_with (int_le d g') (int_le l' d) (same_le l' d l d (omega (arith, linear, e)) ∙ m)

high_test : (s : Bool) (l g d q above below l' g' : ℤ) → above ≡ d -ℤ l → below ≡ g -ℤ d →
    l' ≡ l +ℤ (if s then pos 0 else q) → g' ≡ g +ℤ (if s then q else pos 0) → int_le l d ≡ true → int_le d g ≡ true →
    int_le (if s then neg_ℤ q else q) (if s then below else above) ≡ int_le l' d && int_le d g'
high_test true l g d q above below l' g' a b e f m n =
    same_le (neg_ℤ q) below d g' (omega (arith, linear, b, f)) ∙ true_with (int_le d g') (int_le l' d) (same_le l' d l d (omega (arith, linear, e)) ∙ m)
high_test false l g d q above below l' g' a b e f m n =
    same_le q above l' d (omega (arith, linear, a, e)) ∙ and_with_true (int_le l' d) (int_le d g') (same_le d g' d g (omega (arith, linear, f)) ∙ n)

-- ---- one axis: from l to h, each half as long as m
module _ (n l m h q : ℤ) (e : h ≡ l +ℤ m +ℤ m) (f : q ≡ n *ℤ m) where
  to_middle : n *ℤ (l +ℤ m) ≡ n *ℤ l +ℤ n *ℤ m
  to_middle = solve 3 (λ n l m. n ⊗ (l ⊕ m) ≈ n ⊗ l ⊕ n ⊗ m) cancels n l m

  to_end : n *ℤ h ≡ n *ℤ l +ℤ n *ℤ m +ℤ n *ℤ m
  to_end = ap (λ (x : ℤ). n *ℤ x) e ∙ solve 3 (λ n l m. n ⊗ (l ⊕ m ⊕ m) ≈ n ⊗ l ⊕ n ⊗ m ⊕ n ⊗ m) cancels n l m

  end_of_upper : n *ℤ (l +ℤ m +ℤ m) ≡ n *ℤ h
  end_of_upper = ap (λ (x : ℤ). n *ℤ x) (sym e)

  low_least : (s : Bool) → n *ℤ (if s then l +ℤ m else l) ≡ n *ℤ (if s then h else l) -ℤ (if s then q else pos 0)
  low_least true = omega (arith, linear, to_middle, to_end, f)
  low_least false = omega (arith, linear)

  low_greatest : (s : Bool) → n *ℤ (if s then l else l +ℤ m) ≡ n *ℤ (if s then l else h) -ℤ (if s then pos 0 else q)
  low_greatest true = omega (arith, linear)
  low_greatest false = omega (arith, linear, to_middle, to_end, f)

  high_least : (s : Bool) → n *ℤ (if s then l +ℤ m +ℤ m else l +ℤ m) ≡ n *ℤ (if s then h else l) +ℤ (if s then pos 0 else q)
  high_least true = omega (arith, linear, end_of_upper)
  high_least false = omega (arith, linear, to_middle, f)

  high_greatest : (s : Bool) → n *ℤ (if s then l +ℤ m else l +ℤ m +ℤ m) ≡ n *ℤ (if s then l else h) +ℤ (if s then q else pos 0)
  high_greatest true = omega (arith, linear, to_middle, f)
  high_greatest false = omega (arith, linear, end_of_upper)

-- ---- a box
half_is : (l m half : ℤ) → half ≡ l +ℤ m -ℤ l → half ≡ m
half_is l m half e = omega (arith, linear, e)

module _ (p : Plane) (c : Cell) (m : Margins) (a : AreMargins p (aabb_of_cell c) m) (o : crosses p (aabb_of_cell c) ≡ true) where
  over : (int_le (least_value p (aabb_of_cell c)) p.d ≡ true) × (int_le p.d (greatest_value p (aabb_of_cell c)) ≡ true)
  unfolding crosses
  over = and_parts (int_le (least_value p (aabb_of_cell c)) p.d) (int_le p.d (greatest_value p (aabb_of_cell c))) o

  low_by : (n half : ℤ) (k : Axis) → least_value p (aabb_of_cell (left_half c k)) ≡ least_value p (aabb_of_cell c) -ℤ
      (if is_negative n then n *ℤ half else pos 0) →
      greatest_value p (aabb_of_cell (left_half c k)) ≡ greatest_value p (aabb_of_cell c) -ℤ
      (if is_negative n then pos 0 else n *ℤ half) →
      int_le (change_size n half) (margin_of_left n m) ≡ crosses p (aabb_of_cell (left_half c k))
  unfolding crosses
  low_by n half k e f =
      low_test (is_negative n) (least_value p (aabb_of_cell c)) (greatest_value p (aabb_of_cell c)) p.d (n *ℤ half)
      m.above m.below (least_value p (aabb_of_cell (left_half c k))) (greatest_value p (aabb_of_cell (left_half c k)))
      a.above a.below e f over.0 over.1

  high_by : (n half : ℤ) (k : Axis) → least_value p (aabb_of_cell (right_half c k)) ≡ least_value p (aabb_of_cell c) +ℤ
      (if is_negative n then pos 0 else n *ℤ half) →
      greatest_value p (aabb_of_cell (right_half c k)) ≡ greatest_value p (aabb_of_cell c) +ℤ
      (if is_negative n then n *ℤ half else pos 0) →
      int_le (change_size n half) (margin_of_right n m) ≡ crosses p (aabb_of_cell (right_half c k))
  unfolding crosses
  high_by n half k e f =
      high_test (is_negative n) (least_value p (aabb_of_cell c)) (greatest_value p (aabb_of_cell c)) p.d (n *ℤ half)
      m.above m.below (least_value p (aabb_of_cell (right_half c k)))
      (greatest_value p (aabb_of_cell (right_half c k))) a.above a.below e f over.0 over.1

  pub low_crossed : (k : Axis) (i : Middle) → 0 < c.log k → IsMiddle c k i →
      int_le (change_size (along p k) i.half) (margin_of_left (along p k) m) ≡ crosses p (aabb_of_cell (left_half c k))
  low_crossed X i may are =
      let n = p.a in let l = low c X in let g = pos (2 ^ pred (c.log X)) in
      let e = sym (halves_end l (c.log X) may) in let q = ap (λ (x : ℤ). n *ℤ x) (half_is l g i.half are.length) in
      low_by n i.half X (omega (arith, linear, low_least n l g (high c X) (n *ℤ i.half) e q (is_negative n)))
      (omega (arith, linear, low_greatest n l g (high c X) (n *ℤ i.half) e q (is_negative n)))
  low_crossed Y i may are =
      let n = p.b in let l = low c Y in let g = pos (2 ^ pred (c.log Y)) in
      let e = sym (halves_end l (c.log Y) may) in let q = ap (λ (x : ℤ). n *ℤ x) (half_is l g i.half are.length) in
      low_by n i.half Y (omega (arith, linear, low_least n l g (high c Y) (n *ℤ i.half) e q (is_negative n)))
      (omega (arith, linear, low_greatest n l g (high c Y) (n *ℤ i.half) e q (is_negative n)))
  low_crossed Z i may are =
      let n = p.c in let l = low c Z in let g = pos (2 ^ pred (c.log Z)) in
      let e = sym (halves_end l (c.log Z) may) in let q = ap (λ (x : ℤ). n *ℤ x) (half_is l g i.half are.length) in
      low_by n i.half Z (omega (arith, linear, low_least n l g (high c Z) (n *ℤ i.half) e q (is_negative n)))
      (omega (arith, linear, low_greatest n l g (high c Z) (n *ℤ i.half) e q (is_negative n)))

  pub high_crossed : (k : Axis) (i : Middle) → 0 < c.log k → IsMiddle c k i →
      int_le (change_size (along p k) i.half) (margin_of_right (along p k) m) ≡ crosses p (aabb_of_cell (right_half c k))
  high_crossed X i may are =
      let n = p.a in let l = low c X in let g = pos (2 ^ pred (c.log X)) in
      let e = sym (halves_end l (c.log X) may) in let q = ap (λ (x : ℤ). n *ℤ x) (half_is l g i.half are.length) in
      high_by n i.half X (omega (arith, linear, high_least n l g (high c X) (n *ℤ i.half) e q (is_negative n)))
      (omega (arith, linear, high_greatest n l g (high c X) (n *ℤ i.half) e q (is_negative n)))
  high_crossed Y i may are =
      let n = p.b in let l = low c Y in let g = pos (2 ^ pred (c.log Y)) in
      let e = sym (halves_end l (c.log Y) may) in let q = ap (λ (x : ℤ). n *ℤ x) (half_is l g i.half are.length) in
      high_by n i.half Y (omega (arith, linear, high_least n l g (high c Y) (n *ℤ i.half) e q (is_negative n)))
      (omega (arith, linear, high_greatest n l g (high c Y) (n *ℤ i.half) e q (is_negative n)))
  high_crossed Z i may are =
      let n = p.c in let l = low c Z in let g = pos (2 ^ pred (c.log Z)) in
      let e = sym (halves_end l (c.log Z) may) in let q = ap (λ (x : ℤ). n *ℤ x) (half_is l g i.half are.length) in
      high_by n i.half Z (omega (arith, linear, high_least n l g (high c Z) (n *ℤ i.half) e q (is_negative n)))
      (omega (arith, linear, high_greatest n l g (high c Z) (n *ℤ i.half) e q (is_negative n)))
