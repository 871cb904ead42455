-- Errors of exact numbers.
use Rattle.std.proofs.Common.{◌≡◌, ℕ, ◌+◌, ◌-◌, ◌*◌, ◌^◌, ◌<◌, ◌≤◌, min, true, ◌+ℤ◌, unsigned_abs, mul-le-mul, subst, refl, sym, ap, ◌∙◌, arith}
use Rattle.std.specs.Prelude.{not}
use Rattle.std.proofs.Math.Pow.{pow_mono}
use Rattle.mesh_number.specs.Number.Fractions.{Fraction}
use Rattle.mesh_number.specs.Number.Quotients.{quotient}
use Rattle.ember_wide.specs.declared.whole.Wide.{Wide}
use Rattle.ember_wide.specs.Whole.{size_of, value_of}
use Rattle.ember_wide.proofs.Values.{size_of_value}
use Rattle.mesh_number.specs.Float.Binary32.{distance}
use Rattle.mesh_written.specs.declared.ratio.Ratio.{Ratio}
use Rattle.mesh_written.specs.Places.{fraction_of}
use Rattle.mesh_written.specs.Floats.{IsFloatOf, IsInfinite}
use Rattle.mesh_written.specs.Decimals.{IsTooLong}
use Rattle.mesh_effect.specs.Rounding.Floats.{float_number, is_below_zero, significand_of, last_place}
use Rattle.mesh_effect.specs.Rounding.Squares.{decimal_number}
use Rattle.mesh_effect.specs.Rounding.Ticks.{ticks_between, power_tick, decimal_tick}
use Rattle.mesh_effect.proofs.DecimalErrors as decimal
use Rattle.mesh_effect.proofs.FloatErrors.{error_is_small}
use Rattle.mesh_effect.proofs.FloatSums as sums
use Rattle.mesh_effect.proofs.FloatSums.{wide}
use Rattle.mesh_effect.proofs.TickCounts.{float_ticks_are, decimal_ticks_are}

-- ---- numbers that are too large
pub infinite : (r : Ratio) (v : Fraction) → fraction_of r ≡ v → (2 ^ 128 - 2 ^ 103) * r.denominator ≤ size_of r.numerator.size → IsInfinite v
infinite r v e h =
    let far : IsInfinite (fraction_of r) = omega (arith, size_of_value r.numerator, h) in
    subst (λ (w : Fraction). IsInfinite w) e far

pub too_long : (r : Ratio) (v : Fraction) → fraction_of r ≡ v → 10 ^ 21 * r.denominator ≤ size_of r.numerator.size → IsTooLong v
too_long r v e h =
    let far : IsTooLong (fraction_of r) = omega (arith, size_of_value r.numerator, h) in
    subst (λ (w : Fraction). IsTooLong w) e far

-- ---- a number and its float
module _ (r : Ratio) (bits : ℕ) (below : size_of r.numerator.size < (2 ^ 128 - 2 ^ 103) * r.denominator) (near : IsFloatOf (fraction_of r) bits) where
  small : distance (value_of r.numerator) r.denominator near.value ≤ r.denominator * 2 ^ last_place bits
  small = error_is_small (value_of r.numerator) r.denominator bits r.positive (omega (arith, size_of_value r.numerator, below)) near

  pub place_most : last_place bits ≤ 253
  place_most = sums.place_most r.numerator.negative (size_of r.numerator.size) r.denominator bits near.value near.finite

  pub significand_short : significand_of bits < 2 ^ 24
  significand_short = sums.significand_short r.numerator.negative (size_of r.numerator.size) r.denominator bits near.value near.finite

  power_most : 2 ^ (last_place bits - 149) ≤ 2 ^ 104
  power_most = pow_mono {j = 104} (omega (arith, place_most))

  -- both parts of the error fit
  pub exact_small : size_of r.numerator.size * 2 ^ (149 - last_place bits) ≤ 2 ^ 128 * 2 ^ 115
  exact_small =
      let most = sums.exact_most r.numerator.negative (size_of r.numerator.size) r.denominator bits near.value near.finite small in
      let unit : 2 ^ 24 * 2 ^ (last_place bits - 149) ≤ 2 ^ 128 = omega (arith, power_most) in
      let under : r.denominator ≤ 2 ^ 115 = omega (arith, r.small) in
      let all : 2 ^ 24 * 2 ^ (last_place bits - 149) * r.denominator ≤ 2 ^ 128 * 2 ^ 115 = mul-le-mul unit under in
      omega (arith, most, all)

  pub written_most : significand_of bits * 2 ^ (last_place bits - 149) * r.denominator ≤ 2 ^ 128 * 2 ^ 115
  written_most =
      let short : significand_of bits ≤ 2 ^ 24 = omega (arith, significand_short) in
      let unit : significand_of bits * 2 ^ (last_place bits - 149) ≤ 2 ^ 24 * 2 ^ 104 = mul-le-mul short power_most in
      let whole : significand_of bits * 2 ^ (last_place bits - 149) ≤ 2 ^ 128 = omega (arith, unit) in
      let under : r.denominator ≤ 2 ^ 115 = omega (arith, r.small) in
      mul-le-mul whole under

  -- the size of their sum
  pub sum_is_error : (a s : ℕ) (sum : Wide) → a ≡ size_of r.numerator.size * 2 ^ (149 - last_place bits) →
      s ≡ significand_of bits * 2 ^ (last_place bits - 149) * r.denominator →
      value_of sum ≡ wide r.numerator.negative a +ℤ wide (not (is_below_zero bits)) s →
      size_of sum.size * 2 ^ min (last_place bits) 149 ≡ distance (value_of r.numerator) r.denominator (float_number bits)
  sum_is_error a s sum is_a is_s is =
      let size = sym (size_of_value sum) ∙ ap unsigned_abs is in
      ap (λ (n : ℕ). n * 2 ^ min (last_place bits) 149) size
      ∙ sums.error_is r.numerator.negative (size_of r.numerator.size) r.denominator bits near.value near.finite a s is_a is_s

  module _ (e top : ℕ) (place : last_place bits ≤ top)
      (error : e * 2 ^ min (last_place bits) 149 ≡ distance (value_of r.numerator) r.denominator (float_number bits))
    where
      within_unit : e ≤ r.denominator * 2 ^ (last_place bits - 149)
      within_unit = sums.error_most r.numerator.negative (size_of r.numerator.size) r.denominator bits near.value near.finite small e error

      pub error_short : e ≤ r.denominator * 2 ^ 104
      error_short =
          let most : r.denominator * 2 ^ (last_place bits - 149) ≤ r.denominator * 2 ^ 104 = mul-le-mul (omega arith) power_most in
          omega (arith, within_unit, most)

      pub error_within : e ≤ r.denominator * 2 ^ (top - min (last_place bits) 149)
      error_within =
          let power : 2 ^ (last_place bits - 149) ≤ 2 ^ (top - min (last_place bits) 149) =
          pow_mono {i = last_place bits - 149} {j = top - min (last_place bits) 149} (omega (arith, place)) in
          let most : r.denominator * 2 ^ (last_place bits - 149) ≤ r.denominator * 2 ^ (top - min (last_place bits) 149) = mul-le-mul (omega arith) power in
          omega (arith, within_unit, most)

      pub ticks_of_error : quotient true (e * 2 ^ 62) (r.denominator * 2 ^ (top - min (last_place bits) 149))
          ≡ ticks_between (power_tick top) (fraction_of r) (float_number bits)
      ticks_of_error =
          let g = min (last_place bits) 149 in
          let sum : g + (top - g) ≡ top = omega (arith, place) in
          float_ticks_are top g (top - g) e (fraction_of r) (float_number bits) r.positive
          (sums.number_under r.numerator.negative (size_of r.numerator.size) r.denominator bits near.value near.finite)
          sum error

-- ---- a number and its decimal
module _ (r : Ratio) (places whole rest : ℕ) (e : whole * r.denominator + rest ≡ size_of r.numerator.size * 10 ^ places) (l : rest < r.denominator) where
  pub rest_is_error : min rest (r.denominator - rest) ≡ distance (value_of r.numerator) r.denominator (decimal_number places (fraction_of r))
  rest_is_error =
      let same : whole * r.denominator + rest ≡ unsigned_abs (value_of r.numerator) * 10 ^ places =
      e ∙ ap (λ (n : ℕ). n * 10 ^ places) (sym (size_of_value r.numerator)) in
      decimal.error_is (fraction_of r) places whole rest r.positive same l

pub ticks_of_decimal : (r : Ratio) (places e : ℕ) →
    e ≡ distance (value_of r.numerator) r.denominator (decimal_number places (fraction_of r)) →
    quotient true (e * 2 ^ 62) (r.denominator * 2 ^ 0) ≡ ticks_between (decimal_tick places) (fraction_of r)
    (decimal_number places (fraction_of r))
ticks_of_decimal r places e is = decimal_ticks_are places e (fraction_of r) (decimal_number places (fraction_of r)) r.positive refl is
