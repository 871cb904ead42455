-- Floors of fractions, and numbers moved into the root.
use Rattle.std.proofs.Common.{◌≡◌, ◌<◌, ◌+◌, ◌*◌, ◌/◌, refl, ap, ◌∙◌, arith, Bool, true, false, cond, ℤ, pos, negsuc}
use Rattle.std.proofs.Common.{◌+ℤ◌, ◌*ℤ◌, neg_ℤ, ◌<ℤ◌, ◌≤ℤ◌, int_lt}
use Rattle.std.specs.Int.{int_div_euclid}
use Rattle.std.proofs.Math.Nat.{div-mul-le_self, lt-div-mul-add}
use Rattle.std.proofs.lemmas.Int.{by_lt_z}
use borrow.Author.Differences.{ints}
use Rattle.ember_algebra.proofs.Laws.{linear}
use Rattle.ember_algebra.proofs.Order.{cancel_lt}
use Rattle.ember_algebra.proofs.Ring.{◌⊕◌, ◌⊗◌, ◌≈◌, num, neg, solve, cancels}
use Rattle.ember_algebra.specs.declared.Sign.TheVariants.{Neg}
use Rattle.ember_algebra.specs.Sign.{sgn}
use Rattle.ember_algebra.proofs.Numbers.{int_lt_in, int_lt_not}
use Rattle.ember_width.specs.Broad.{IsRemainder, IsPlace, IsInRoot, most_floor}
use Rattle.ember_width.specs.RootFloors.{moved_within}

-- ---- floors
-- a floor is the greatest whole number that isn't above
pub floor_low : (y w : ℤ) → pos 0 <ℤ w → (w *ℤ int_div_euclid y w) ≤ℤ y
floor_low (pos a) (pos b) p = omega (arith, ints, div-mul-le_self a b)
floor_low (negsuc a) (pos b) p =
    let above : 0 < b = omega (arith, ints, p) in let m : a < a / b * b + b = lt-div-mul-add above in omega (arith, ints, m)
floor_low y (negsuc b) p = absurd (omega (arith, ints))

-- a number is below one step above its floor
pub floor_high : (y w : ℤ) → pos 0 <ℤ w → y <ℤ (w *ℤ int_div_euclid y w +ℤ w)
floor_high (pos a) (pos b) p =
    let above : 0 < b = omega (arith, ints, p) in let m : a < a / b * b + b = lt-div-mul-add above in omega (arith, ints, m)
floor_high (negsuc a) (pos b) p = omega (arith, ints, div-mul-le_self a b)
floor_high y (negsuc b) p = absurd (omega (arith, ints))

below_next : (w a y z : ℤ) → pos 0 <ℤ w → (w *ℤ y) ≤ℤ a → a <ℤ (w *ℤ z +ℤ w) → y <ℤ (z +ℤ pos 1)
below_next w a y z p low high =
    let sum = solve 2 (λ w z. w ⊗ (z ⊕ num (pos 1)) ≈ w ⊗ z ⊕ w) cancels w z in
    let less : (w *ℤ y) <ℤ (w *ℤ (z +ℤ pos 1)) = omega (arith, linear, sum, low, high) in
    cancel_lt p less

-- there is only one such number
pub floor_is : (a y w : ℤ) → pos 0 <ℤ w → (w *ℤ y) ≤ℤ a → a <ℤ (w *ℤ y +ℤ w) → int_div_euclid a w ≡ y
floor_is a y w p low high =
    let up = below_next w a y (int_div_euclid a w) p low (floor_high a w p) in
    let down = below_next w a (int_div_euclid a w) y p (floor_low a w p) high in
    omega (arith, linear, up, down)

-- a coordinate's place has its floor
pub place_floor : {q r x w : ℤ} → pos 0 <ℤ w → IsPlace q r x w → int_div_euclid x w ≡ q
place_floor {q} {r} {x} {w} p s =
    let e = solve 2 (λ q w. q ⊗ w ≈ w ⊗ q) cancels q w in let v = s.value in
    floor_is x q w p (omega (arith, linear, e, v, s.rest.at_least)) (omega (arith, linear, e, v, s.rest.below))

-- a coordinate that is kept by its floor and a remainder
pub kept_place : (q r w : ℤ) → pos 0 <ℤ w → IsRemainder r w → int_div_euclid (q *ℤ w +ℤ r) w ≡ q
kept_place q r w p s =
    let e = solve 2 (λ q w. q ⊗ w ≈ w ⊗ q) cancels q w in
    floor_is (q *ℤ w +ℤ r) q w p (omega (arith, linear, e, s.at_least)) (omega (arith, linear, e, s.below))

-- ---- numbers moved into the root

-- what lies within stays
pub moved_inside : (h z : ℤ) → neg_ℤ h ≤ℤ z → z ≤ℤ h → moved_within h z ≡ z
moved_inside h z a b =
    (λ i. cond (int_lt_not z (neg_ℤ h) a i) (neg_ℤ h) (cond (int_lt h z) h z)) ∙ (λ i. cond (int_lt_not h z b i) h z)

-- what lies below moves to the lower end
pub moved_up : (h z : ℤ) → z <ℤ neg_ℤ h → moved_within h z ≡ neg_ℤ h
moved_up h z l = λ i. cond (int_lt_in z (neg_ℤ h) l i) (neg_ℤ h) (cond (int_lt h z) h z)

-- what lies above moves to the upper end
pub moved_down : (h z : ℤ) → neg_ℤ h ≤ℤ z → h <ℤ z → moved_within h z ≡ h
moved_down h z a l =
    (λ i. cond (int_lt_not z (neg_ℤ h) a i) (neg_ℤ h) (cond (int_lt h z) h z)) ∙ (λ i. cond (int_lt_in h z l i) h z)

-- ---- coordinates outside of the root
pub not_below_nil : (z : ℤ) → (sgn z ≡ Neg → ⊥) → pos 0 ≤ℤ z
not_below_nil (pos n) f = omega (arith, ints)
not_below_nil (negsuc n) f = absurd (f refl)

-- one that is below 0 lies below the root, any other above it
pub below_root : (x w : ℤ) → pos 0 <ℤ w → (IsInRoot x w → ⊥) → x <ℤ pos 0 → (x +ℤ pos most_floor *ℤ w) <ℤ pos 0
below_root x w p out l =
    by_lt_z (x +ℤ pos most_floor *ℤ w) (pos 0) (λ m. m)
    (λ m. absurd (out (record { at_least = m; below = omega (arith, linear, l, p) })))

pub above_root : (x w : ℤ) → pos 0 <ℤ w → (IsInRoot x w → ⊥) → pos 0 ≤ℤ x → (pos most_floor *ℤ w) ≤ℤ x
above_root x w p out l =
    by_lt_z x (pos most_floor *ℤ w) (λ m. absurd (out (record { at_least = omega (arith, linear, l, p); below = m }))) (λ m. m)

-- below it
pub floor_below : (x w : ℤ) → pos 0 <ℤ w → (x +ℤ pos most_floor *ℤ w) <ℤ pos 0 → moved_within (pos most_floor) (int_div_euclid x w) ≡ neg_ℤ (pos most_floor)
floor_below x w p l =
    let f = int_div_euclid x w in let low = floor_low x w p in
    let e = solve 2 (λ h w. w ⊗ neg h ≈ neg (h ⊗ w)) cancels (pos most_floor) w in
    let less : (w *ℤ f) <ℤ (w *ℤ neg_ℤ (pos most_floor)) = omega (arith, linear, e, low, l) in
    moved_up (pos most_floor) f (cancel_lt p less)

-- above it, or on its upper wall
pub floor_above : (x w : ℤ) → pos 0 <ℤ w → (pos most_floor *ℤ w) ≤ℤ x → moved_within (pos most_floor) (int_div_euclid x w) ≡ pos most_floor
floor_above x w p l =
    let h = pos most_floor in let f = int_div_euclid x w in
    let e = solve 2 (λ h w. h ⊗ w ≈ w ⊗ h) cancels h w in
    let least = below_next w x h f p (omega (arith, linear, e, l)) (floor_high x w p) in
    by (int_lt h f) refl least
  where
    by : (b : Bool) → int_lt (pos most_floor) (int_div_euclid x w) ≡ b → pos most_floor <ℤ (int_div_euclid x w +ℤ pos 1) →
        moved_within (pos most_floor) (int_div_euclid x w) ≡ pos most_floor
    by true e g = moved_down (pos most_floor) (int_div_euclid x w) (omega (arith, ints, g)) (is_less (pos most_floor) (int_div_euclid x w) e)
      where
        is_less : (a b : ℤ) → int_lt a b ≡ true → a <ℤ b
        is_less a b e = grind (arith, ints)
    by false e g =
        let same : int_div_euclid x w ≡ pos most_floor = omega (arith, ints, g, is_not_less (pos most_floor) (int_div_euclid x w) e) in
        ap (λ z. moved_within (pos most_floor) z) same ∙ moved_inside (pos most_floor) (pos most_floor) (omega (arith, ints)) (omega (arith, ints))
      where
        is_not_less : (a b : ℤ) → int_lt a b ≡ false → b ≤ℤ a
        is_not_less a b e = grind (arith, ints)
