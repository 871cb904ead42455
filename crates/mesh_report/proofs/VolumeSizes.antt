-- How large the numbers are of which a volume is shown, and its text
use Rattle.std.proofs.Common.{◌≡◌, ℕ, ◌+◌, ◌*◌, ◌^◌, ◌<◌, ◌≤◌, Bool, true, false, if◌then◌else◌, codes, ℤ, pos, refl, ◌∙◌, mul-le-mul, arith}
use Rattle.std.specs.Prelude.{int_lt, nat_le, unsigned_abs}
use Rattle.std.proofs.lemmas.Bool.Decides.{nat_tests}
use Rattle.mesh_grid.specs.declared.snap.steps.GridStep.{GridStep}
use Rattle.mesh_number.specs.Round.Decimals.{decimal_text}
use Rattle.mesh_number.specs.Round.Nearest.{nearest_whole}
use Rattle.mesh_written.proofs.Signs.{fits_with_places}
use Rattle.mesh_report.specs.Volumes.{cube, cubic_text, volume_text}

-- ---- sizes

cube_is_positive : (n : ℕ) → 0 < n → 0 < cube n
cube_is_positive n p =
    let one : 1 ≤ n = omega (arith, p) in omega (arith, mul-le-mul (mul-le-mul one one) one)

-- six times the cube of a step's denominator
pub unit_is_positive : (n unit : ℕ) → 0 < n → unit ≡ 6 * cube n → 0 < unit
unit_is_positive n unit p e = omega (arith, cube_is_positive n p, e)

-- a volume below the limit fits, with its places, into 128 bits
pub volume_fits : (size unit limit : ℕ) → 0 < unit → limit ≡ unit * 10 ^ 21 → size < limit →
    size * 10 ^ 12 + unit < 2 ^ 128 * unit
volume_fits size unit limit p e l = fits_with_places size unit 12 p (omega (arith, e, l)) (omega arith)

-- ---- texts
module _ (sixfold_volume : ℤ) (size unit : ℕ) where
  -- a volume below the limit is shown
  below_limit : size < unit * 10 ^ 21 →
      decimal_text (int_lt sixfold_volume (pos 0)) (nearest_whole (size * 10 ^ 12) unit) 12 ≡ cubic_text sixfold_volume size unit
  below_limit l = by (nat_le (10 ^ 21 * unit) size) refl
    where
      by : (b : Bool) → nat_le (10 ^ 21 * unit) size ≡ b →
          decimal_text (int_lt sixfold_volume (pos 0)) (nearest_whole (size * 10 ^ 12) unit) 12 ≡
          (if b then codes "?" else decimal_text (int_lt sixfold_volume (pos 0)) (nearest_whole (size * 10 ^ 12) unit) 12)
      by false e = refl
      by true e = absurd (grind (arith, nat_tests, e, l))

  -- and any other isn't
  from_limit_on : unit * 10 ^ 21 ≤ size → codes "?" ≡ cubic_text sixfold_volume size unit
  from_limit_on l = by (nat_le (10 ^ 21 * unit) size) refl
    where
      by : (b : Bool) → nat_le (10 ^ 21 * unit) size ≡ b → codes "?" ≡
          (if b then codes "?" else decimal_text (int_lt sixfold_volume (pos 0)) (nearest_whole (size * 10 ^ 12) unit) 12)
      by true e = refl
      by false e = absurd (grind (arith, nat_tests, e, l))

  module _ (step : GridStep) (of_size : size ≡ unsigned_abs sixfold_volume * cube step.numerator)
      (of_unit : unit ≡ 6 * cube step.denominator) where
    pub volume_shown : size < unit * 10 ^ 21 →
        decimal_text (int_lt sixfold_volume (pos 0)) (nearest_whole (size * 10 ^ 12) unit) 12 ≡ volume_text step sixfold_volume
    volume_shown l = below_limit l ∙ (λ k. cubic_text sixfold_volume (of_size k) (of_unit k))

    pub volume_not_shown : unit * 10 ^ 21 ≤ size → codes "?" ≡ volume_text step sixfold_volume
    volume_not_shown l = from_limit_on l ∙ (λ k. cubic_text sixfold_volume (of_size k) (of_unit k))
