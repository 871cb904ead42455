-- The error of a nearest decimal.
use Rattle.std.proofs.Common.{◌≡◌, ℕ, ◌+◌, ◌-◌, ◌*◌, ◌^◌, ◌<◌, ◌≤◌, min, Bool, true, false, ℤ, pos, negsuc, unsigned_abs, refl, sym, ap, ◌∙◌, arith}
use Rattle.std.specs.Prelude.{int_lt}
use Rattle.std.proofs.lemmas.Bool.Decides.{nat_tests}
use borrow.Author.Differences.{ints}
use Rattle.mesh_number.specs.Number.Fractions.{Fraction, signed_whole}
use Rattle.mesh_number.specs.Float.Binary32.{distance}
use Rattle.mesh_number.proofs.Distances.{gap}
use Rattle.mesh_number.proofs.Signs.{distance_same}
use Rattle.mesh_number.specs.Round.Nearest.{nearest_whole, rounds_up}
use Rattle.mesh_number.proofs.Halving.{rounded_up, rounded_down}
use Rattle.mesh_effect.specs.Rounding.Squares.{decimal_number}

-- a number by its sign and its size
sign_is : (n : ℤ) → n ≡ signed_whole (int_lt n (pos 0)) (unsigned_abs n)
sign_is n = by n (int_lt n (pos 0)) refl
  where
    by : (n : ℤ) (b : Bool) → int_lt n (pos 0) ≡ b → n ≡ signed_whole b (unsigned_abs n)
    by (pos k) false e = refl
    by (pos k) true e = absurd (omega (arith, ints, e))
    by (negsuc k) true e = refl
    by (negsuc k) false e = absurd (omega (arith, ints, e))

lower : (whole rest d : ℕ) → rounds_up whole rest d ≡ false → 2 * rest ≤ d
lower whole rest d e = grind (arith, nat_tests)

upper : (whole rest d : ℕ) → rounds_up whole rest d ≡ true → d ≤ 2 * rest
upper whole rest d e = grind (arith, nat_tests)

gap_below : (n rest a : ℕ) → n ≡ a + rest → gap n a ≡ rest
unfolding gap
gap_below n rest a e = omega (arith, e)

gap_above : (n d rest a b : ℕ) → n ≡ a + rest → b ≡ a + d → rest < d → gap n b ≡ d - rest
unfolding gap
gap_above n d rest a b e f l = omega (arith, e, f, l)

-- how far the nearest whole number is, from the rest of a division
rest_near : (n d whole rest : ℕ) → 0 < d → whole * d + rest ≡ n → rest < d → gap n (nearest_whole n d * d) ≡ min rest (d - rest)
rest_near n d whole rest p e l = by (rounds_up whole rest d) refl
  where
    by : (b : Bool) → rounds_up whole rest d ≡ b → gap n (nearest_whole n d * d) ≡ min rest (d - rest)
    by false f =
        let here : gap n (whole * d) ≡ rest = gap_below n rest (whole * d) (sym e) in
        let least : min rest (d - rest) ≡ rest = omega (arith, lower whole rest d f) in
        ap (λ (m : ℕ). gap n (m * d)) (sym (rounded_down n d whole rest e l f)) ∙ here ∙ sym least
    by true f =
        let next : (whole + 1) * d ≡ whole * d + d = omega arith in
        let here : gap n ((whole + 1) * d) ≡ d - rest = gap_above n d rest (whole * d) ((whole + 1) * d) (sym e) next l in
        let least : min rest (d - rest) ≡ d - rest = omega (arith, upper whole rest d f) in
        ap (λ (m : ℕ). gap n (m * d)) (sym (rounded_up n d whole rest e l f)) ∙ here ∙ sym least

pub error_is : (v : Fraction) (places whole rest : ℕ) → 0 < v.denominator →
    whole * v.denominator + rest ≡ unsigned_abs v.numerator * 10 ^ places → rest < v.denominator →
    min rest (v.denominator - rest) ≡ distance v.numerator v.denominator (decimal_number places v)
error_is v places whole rest p e l =
    let s = int_lt v.numerator (pos 0) in
    let size = nearest_whole (unsigned_abs v.numerator * 10 ^ places) v.denominator in
    let apart = distance_same s (unsigned_abs v.numerator) v.denominator size (10 ^ places) in
    let near = rest_near (unsigned_abs v.numerator * 10 ^ places) v.denominator whole rest p e l in
    sym (ap (λ (z : ℤ). distance z v.denominator (decimal_number places v)) (sign_is v.numerator) ∙ apart ∙ near)
