-- Nice steps are in range.
use Rattle.std.proofs.Common.{◌≤◌, ◌<◌, ℕ, ◌*◌, ◌^◌, arith, mul-pos}
use Rattle.std.proofs.Math.Nat.{pow-le-pow_right, mul-le-mul}
use Rattle.mesh_number.proofs.DigitNumbers.{pow_ten_pos}
use Rattle.mesh_grid.specs.Snap.Steps.{IsStep}

-- a nice step's numerator is at most 5 * 10^11
pub nice_small : (digit e : ℕ) → digit ≤ 5 → e ≤ 11 → digit * 10 ^ e ≤ 5 * 10 ^ 11
nice_small digit e d h = mul-le-mul d (pow-le-pow_right {n = 10} (omega arith) {i = e} {j = 11} h)

-- nice steps are in range
pub nice_is_step : (digit e f : ℕ) → 0 < digit → digit ≤ 5 → e ≤ 11 → f ≤ 12 → IsStep (record { numerator = digit * 10 ^ e; denominator = 10 ^ f })
nice_is_step digit e f p d h k =
    let small = nice_small digit e d h in
    let under : 10 ^ f ≤ 10 ^ 12 = pow-le-pow_right {n = 10} (omega arith) {i = f} {j = 12} k in
    record {
      numerator_positive = mul-pos p (pow_ten_pos e);
      denominator_positive = pow_ten_pos f;
      numerator_small =
          omega (arith, small);
      denominator_small = omega (arith, under);
    }

fine_small : (number e : ℕ) → number ≤ 9999 → e ≤ 8 → number * 10 ^ e ≤ 9999 * 10 ^ 8
fine_small number e d h = mul-le-mul d (pow-le-pow_right {n = 10} (omega arith) {i = e} {j = 8} h)

-- fine steps are in range
pub fine_is_step : (number e f : ℕ) → 0 < number → number ≤ 9999 → e ≤ 8 → f ≤ 12 → IsStep (record { numerator = number * 10 ^ e; denominator = 10 ^ f })
fine_is_step number e f p d h k =
    let small = fine_small number e d h in
    let under : 10 ^ f ≤ 10 ^ 12 = pow-le-pow_right {n = 10} (omega arith) {i = f} {j = 12} k in
    record {
      numerator_positive = mul-pos p (pow_ten_pos e);
      denominator_positive = pow_ten_pos f;
      numerator_small =
          omega (arith, small);
      denominator_small = omega (arith, under);
    }
