-- A step, a length and a move as decimals.
use Rattle.std.proofs.Common.{◌≡◌, ℕ, ◌+◌, ◌*◌, ◌^◌, ◌<◌, ◌≤◌, ℤ, pos, mul-le-mul, ap, arith}
use Rattle.std.proofs.Math.Nat.{pow-le-pow_right}
use Rattle.mesh_number.specs.Number.Fractions.{Fraction}
use Rattle.mesh_number.specs.Round.Decimals.{decimal_text}
use Rattle.mesh_number.specs.Round.Nearest.{nearest_whole}
use Rattle.mesh_number.proofs.Digits.{power_of_10_positive}
use Rattle.ember_wide.specs.declared.whole.Wide.{Wide}
use Rattle.ember_wide.specs.Whole.{size_of, value_of}
use Rattle.mesh_written.proofs.Signs.{decimal_of_ratio}
use Rattle.mesh_grid.specs.declared.snap.steps.GridStep.{GridStep}
use Rattle.mesh_grid.specs.declared.grid.extent.SceneExtent.{SceneExtent}
use Rattle.mesh_texts.specs.Texts.{length_text, size_text, step_text}

abbrev over : ℕ → ℤ → Fraction
over d z = record { numerator = z; denominator = d }

-- and its decimal is that of the step
pub step_shown : (w : Wide) (s : GridStep) → 0 < s.denominator → s.denominator < 2 ^ 64 → value_of w ≡ pos s.numerator →
    decimal_text w.negative (nearest_whole (size_of w.size * 10 ^ 12) s.denominator) 12 ≡ step_text s
step_shown w s p small e =
    decimal_of_ratio (record { numerator = w; denominator = s.denominator; positive = p; small = omega (arith, small) })
    (over s.denominator (pos s.numerator)) (ap (over s.denominator) e) 12

-- ---- a length
-- the trillionths, with their places, fit into 128 bits
pub length_fits : (w : Wide) (e : SceneExtent) → size_of w.size ≡ e.trillionths → size_of w.size * 10 ^ 12 + 1000000000000 < 2 ^ 128 * 1000000000000
length_fits w e size = let small = e.small in omega (arith, size, small)

-- and their decimal is that of the length
pub length_shown : (w : Wide) (e : SceneExtent) → value_of w ≡ pos e.trillionths →
    decimal_text w.negative (nearest_whole (size_of w.size * 10 ^ 12) 1000000000000) 12 ≡ length_text e
length_shown w e value =
    decimal_of_ratio (record {
      numerator = w;
      denominator = 1000000000000;
      positive = omega arith;
      small =
          omega arith;
    }) (over 1000000000000 (pos e.trillionths)) (ap (over 1000000000000) value) 12

-- ---- a move
-- its size over a power of ten, with its places, fits into 128 bits
pub size_fits : (w : Wide) (size places : ℕ) → size < 2 ^ 127 → size_of w.size ≡ size → size_of w.size * 10 ^ places + 10 ^ places < 2 ^ 128 * 10 ^ places
size_fits w size places small same =
    let power = 10 ^ places in
    let some : 0 < power = power_of_10_positive places in
    let more : size_of w.size + 2 ≤ 2 ^ 128 = omega (arith, same, small) in
    let all : (size_of w.size + 2) * power ≤ 2 ^ 128 * power = mul-le-mul more (omega arith) in
    omega (arith, all, some)

power_divides_ratio : (places : ℕ) → places ≤ 12 → 10 ^ places < 2 ^ 115
power_divides_ratio places few =
    let most : 10 ^ places ≤ 10 ^ 12 = pow-le-pow_right {n = 10} (omega arith) {i = places} {j = 12} few in omega (arith, most)

pub power_is_small : (places : ℕ) → places ≤ 12 → 10 ^ places < 2 ^ 127
power_is_small places few = let least = power_divides_ratio places few in omega (arith, least)

-- and its decimal is that of the size
pub size_shown : (w : Wide) (size places : ℕ) → places ≤ 12 → value_of w ≡ pos size →
    decimal_text w.negative (nearest_whole (size_of w.size * 10 ^ places) (10 ^ places)) places ≡ size_text size places
size_shown w size places few value =
    decimal_of_ratio (record {
      numerator = w;
      denominator = 10 ^ places;
      positive = power_of_10_positive places;
      small =
          power_divides_ratio places few;
    }) (over (10 ^ places) (pos size)) (ap (over (10 ^ places)) value) places
