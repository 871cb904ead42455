-- The error of a float, as the code finds it.
use Rattle.std.proofs.Common.{◌≡◌, ℕ, ◌+◌, ◌-◌, ◌*◌, ◌^◌, ◌<◌, ◌≤◌, min, Bool, true, false, if◌then◌else◌, Some, ℤ, pos}
use Rattle.std.proofs.Common.{neg_ℤ, ◌+ℤ◌, unsigned_abs, mul-le-mul, refl, sym, ap, ◌∙◌, arith}
use Rattle.std.specs.Prelude.{not}
use borrow.Author.Differences.{ints}
use Rattle.std.proofs.lemmas.Nat.{pow_pos, pow-add}
use Rattle.std.proofs.Math.Nat.{le_of_mul-le-mul_right}
use Rattle.mesh_number.specs.Number.Fractions.{Fraction}
use Rattle.mesh_number.specs.Number.Floats.{binary32_value}
use Rattle.mesh_number.proofs.Rounding.{by_lt}
use Rattle.mesh_number.specs.Float.Binary32.{distance}
use Rattle.mesh_number.proofs.Distances.{gap}
use Rattle.mesh_number.proofs.Signs.{distance_same, distance_other}
use Rattle.mesh_number.proofs.NearestFloats.{number}
use Rattle.mesh_effect.specs.Rounding.Floats.{value_or_zero, float_number, is_below_zero, significand_of, last_place}
use Rattle.mesh_effect.proofs.FloatBits.{IsFloatAt, float_at}

abbrev pub wide : Bool → ℕ → ℤ
wide t k = if t then neg_ℤ (pos k) else pos k

-- ---- gaps
gap_above : (a e : ℕ) → gap (a + e) a ≡ e
unfolding gap
gap_above a e = omega arith

gap_below : (a e : ℕ) → gap a (a + e) ≡ e
unfolding gap
gap_below a e = omega arith

gap_reaches : (x a : ℕ) → x ≤ gap x a + a
unfolding gap
gap_reaches x a = omega arith

gap_times : (a b g : ℕ) → gap a b * g ≡ gap (a * g) (b * g)
gap_times a b g =
    by_lt a b
    (λ l.
    let sum : b ≡ a + (b - a) = omega (arith, l) in
    let parts : (a + (b - a)) * g ≡ a * g + (b - a) * g = omega arith in
    rw sum (rw (parts, gap_below a (b - a), gap_below (a * g) ((b - a) * g)) refl))
    (λ h.
    let sum : a ≡ b + (a - b) = omega (arith, h) in
    let parts : (b + (a - b)) * g ≡ b * g + (a - b) * g = omega arith in
    rw sum (rw (parts, gap_above b (a - b), gap_above (b * g) ((a - b) * g)) refl))

-- ---- sums of numbers with signs
minus_opposite : (a s : ℕ) → unsigned_abs (pos a +ℤ neg_ℤ (pos s)) ≡ gap a s
unfolding gap
minus_opposite a s = omega (arith, ints)

opposite_minus : (a s : ℕ) → unsigned_abs (neg_ℤ (pos a) +ℤ pos s) ≡ gap a s
unfolding gap
opposite_minus a s = omega (arith, ints)

both_below : (a s : ℕ) → unsigned_abs (neg_ℤ (pos a) +ℤ neg_ℤ (pos s)) ≡ a + s
both_below a s = omega (arith, ints)

module _ (k d m e f g p a s : ℕ) (sum : e + g ≡ 149) (place : f + g ≡ p) (is_a : a ≡ k * 2 ^ e) (is_s : s ≡ m * 2 ^ f * d) where
  exact : a * 2 ^ g ≡ k * 2 ^ 149
  exact =
      let power : 2 ^ 149 ≡ 2 ^ e * 2 ^ g = ap (λ (i : ℕ). 2 ^ i) (sym sum) ∙ pow-add 2 e g in
      rw (is_a, power) (omega arith)

  written : s * 2 ^ g ≡ m * 2 ^ p * d
  written =
      let power : 2 ^ p ≡ 2 ^ f * 2 ^ g = ap (λ (i : ℕ). 2 ^ i) (sym place) ∙ pow-add 2 f g in
      rw (is_s, power) (omega arith)

  apart : gap a s * 2 ^ g ≡ gap (k * 2 ^ 149) (m * 2 ^ p * d)
  apart = gap_times a s (2 ^ g) ∙ (λ i. gap (exact i) (written i))

  together : (a + s) * 2 ^ g ≡ k * 2 ^ 149 + m * 2 ^ p * d
  together = let parts : (a + s) * 2 ^ g ≡ a * 2 ^ g + s * 2 ^ g = omega arith in parts ∙ (λ i. exact i + written i)

  error_times : (t minus : Bool) → unsigned_abs (wide t a +ℤ wide (not minus) s) * 2 ^ g ≡ distance (wide t k) d (number minus (m * 2 ^ p))
  error_times false false = ap (λ (n : ℕ). n * 2 ^ g) (minus_opposite a s) ∙ apart ∙ sym (distance_same false k d (m * 2 ^ p) (2 ^ 149))
  error_times true true = ap (λ (n : ℕ). n * 2 ^ g) (opposite_minus a s) ∙ apart ∙ sym (distance_same true k d (m * 2 ^ p) (2 ^ 149))
  error_times false true = together ∙ sym (distance_other false k d (m * 2 ^ p) (2 ^ 149))
  error_times true false = ap (λ (n : ℕ). n * 2 ^ g) (both_below a s) ∙ together ∙ sym (distance_other true k d (m * 2 ^ p) (2 ^ 149))

-- a number is at most a float and the distance between both
reaches : (t minus : Bool) (k d v : ℕ) → k * 2 ^ 149 ≤ distance (wide t k) d (number minus v) + v * d
reaches false false k d v = rw (distance_same false k d v (2 ^ 149)) (gap_reaches (k * 2 ^ 149) (v * d))
reaches true true k d v = rw (distance_same true k d v (2 ^ 149)) (gap_reaches (k * 2 ^ 149) (v * d))
reaches false true k d v = rw (distance_other false k d v (2 ^ 149)) (omega arith)
reaches true false k d v = rw (distance_other true k d v (2 ^ 149)) (omega arith)

-- ---- for the bits of a number
module _ (t : Bool) (k d bits : ℕ) (v : Fraction) (finite : binary32_value bits ≡ Some v) where
  at : IsFloatAt (is_below_zero bits) (significand_of bits) (last_place bits) v
  at = float_at bits v finite

  pub number_is : float_number bits ≡ v
  number_is = ap value_or_zero finite

  pub number_under : (float_number bits).denominator ≡ 2 ^ 149
  number_under = ap (λ (w : Fraction). w.denominator) (number_is ∙ at.is)

  pub error_is : (a s : ℕ) → a ≡ k * 2 ^ (149 - last_place bits) →
      s ≡ significand_of bits * 2 ^ (last_place bits - 149) * d →
      unsigned_abs (wide t a +ℤ wide (not (is_below_zero bits)) s) * 2 ^ min (last_place bits) 149 ≡ distance (wide t k) d
      (float_number bits)
  error_is a s is_a is_s =
      let p = last_place bits in
      let sum : (149 - p) + min p 149 ≡ 149 = omega arith in
      let place : (p - 149) + min p 149 ≡ p = omega arith in
      error_times k d (significand_of bits) (149 - p) (p - 149) (min p 149) p a s sum place is_a is_s t (is_below_zero bits)
      ∙ sym (ap (λ (w : Fraction). distance (wide t k) d w) (number_is ∙ at.is))

  module _ (small : distance (wide t k) d v ≤ d * 2 ^ last_place bits) where
    below_power : k * 2 ^ 149 ≤ 2 ^ 24 * 2 ^ last_place bits * d
    below_power =
        let p = last_place bits in
        let m = significand_of bits in
        let near : distance (wide t k) d (number (is_below_zero bits) (m * 2 ^ p)) ≤ d * 2 ^ p = rw at.is at small in
        let most = reaches t (is_below_zero bits) k d (m * 2 ^ p) in
        let short : m + 1 ≤ 2 ^ 24 = omega (arith, at.short) in
        let all : (m + 1) * (2 ^ p * d) ≤ 2 ^ 24 * (2 ^ p * d) = mul-le-mul short (omega arith) in
        omega (arith, near, most, all)

    -- the exact number, in units of the last bit
    pub exact_most : k * 2 ^ (149 - last_place bits) ≤ 2 ^ 24 * 2 ^ (last_place bits - 149) * d
    exact_most =
        let p = last_place bits in
        let g = min p 149 in
        let sum : 149 ≡ (149 - p) + g = omega arith in
        let place : p ≡ (p - 149) + g = omega arith in
        let left : 2 ^ 149 ≡ 2 ^ (149 - p) * 2 ^ g = ap (λ (i : ℕ). 2 ^ i) sum ∙ pow-add 2 (149 - p) g in
        let right : 2 ^ p ≡ 2 ^ (p - 149) * 2 ^ g = ap (λ (i : ℕ). 2 ^ i) place ∙ pow-add 2 (p - 149) g in
        let here : k * 2 ^ (149 - p) * 2 ^ g ≡ k * 2 ^ 149 = rw left (omega arith) in
        let there : 2 ^ 24 * 2 ^ p * d ≡ 2 ^ 24 * 2 ^ (p - 149) * d * 2 ^ g = ap (λ (i : ℕ). 2 ^ 24 * i * d) right ∙ (omega arith) in
        le_of_mul-le-mul_right (omega (arith, here, there, below_power)) (pow_pos g)

    -- the error isn't more than a unit
    pub error_most : (e : ℕ) → e * 2 ^ min (last_place bits) 149 ≡ distance (wide t k) d (float_number bits) → e ≤ d * 2 ^ (last_place bits - 149)
    error_most e is =
        let p = last_place bits in
        let g = min p 149 in
        let place : p ≡ (p - 149) + g = omega arith in
        let right : 2 ^ p ≡ 2 ^ (p - 149) * 2 ^ g = ap (λ (i : ℕ). 2 ^ i) place ∙ pow-add 2 (p - 149) g in
        let far : e * 2 ^ g ≤ d * 2 ^ p = rw is (rw number_is small) in
        let there : d * 2 ^ p ≡ d * 2 ^ (p - 149) * 2 ^ g = ap (λ (i : ℕ). d * i) right ∙ (omega arith) in
        le_of_mul-le-mul_right (omega (arith, far, there)) (pow_pos g)

  pub place_most : last_place bits ≤ 253
  place_most = at.place_most

  pub significand_short : significand_of bits < 2 ^ 24
  significand_short = at.short
