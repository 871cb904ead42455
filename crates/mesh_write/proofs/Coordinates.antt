-- A coordinate, written and read again
use Rattle.std.proofs.Common.{◌≡◌, ℕ, zero, suc, ◌+◌, ◌*◌, ◌/◌, ◌%◌, ◌^◌, ◌<◌, Bool, true, false, ◌&&◌, length, Some, ℤ}
use Rattle.std.proofs.Common.{pos, negsuc, neg_ℤ, ◌*ℤ◌, arith, decimal, ltb}
use Rattle.std.specs.Prelude.{int_lt, nat_lt, unsigned_abs}
use Rattle.std.proofs.lemmas.Bool.Decides.{nat_tests}
use Rattle.std.proofs.lemmas.Fmt.{decimal_nonempty}
use Rattle.std.proofs.lemmas.Int.{ints}
use Rattle.std.proofs.Math.Nat.{mod-lt}
use Rattle.mesh_number.specs.Number.Fractions.{Fraction, signed_whole, is_below_limit}
use Rattle.mesh_number.specs.Number.Values.{decimal_value}
use Rattle.mesh_number.specs.Number.Texts.{value_of_text}
use Rattle.mesh_number.proofs.DigitNumbers.{pow_ten_pos}
use Rattle.mesh_write.specs.Text.Lines.{coordinate_text}
use Rattle.mesh_number.specs.Round.Decimals.{fraction_digits, fraction_text}
use Rattle.mesh_number.proofs.SignedFloors.{unsigned_abs-signed_whole}
use Rattle.mesh_write.specs.Reading.Readings.{IsBelow, IsInUnits}
use Rattle.mesh_write.proofs.Digits.{decimal_digits}
use Rattle.mesh_write.proofs.FractionDigits.{ArePlaces, fraction_places}
use Rattle.mesh_write.proofs.PlainTexts.{no_exponent}
use Rattle.mesh_write.proofs.DecimalTexts.{fraction_tail, signed_value}
use Rattle.mesh_write.proofs.Sizes.{whole_small, same_size, size_below}

abbrev is_negative : ℤ → Bool
is_negative units = int_lt units (pos 0) && nat_lt 0 (unsigned_abs units)

-- what so many units of the last of these places are read as
pub read_value : ℕ → ℤ → Fraction
read_value places units =
    decimal_value (is_negative units) (decimal (unsigned_abs units / 10 ^ places)) (fraction_digits places (unsigned_abs units % 10 ^ places)) no_exponent

-- a coordinate's text, and what it is read as
pub record IsRead (places : ℕ) (units : ℤ) : Type 0 where
  pub is : value_of_text (coordinate_text places units) ≡ Some (read_value places units)
  pub same : IsInUnits places units (read_value places units)
  pub below : is_below_limit (read_value places units) ≡ true

none_below : (k : ℕ) → ltb k 0 ≡ false
none_below k = grind (arith, nat_tests)

some_above : (k : ℕ) → ltb 0 (suc k) ≡ true
some_above k = grind (arith, nat_tests)

below_zero : (n k p d : ℕ) → n * p ≡ suc k * d → (neg_ℤ (pos n) *ℤ pos p) ≡ (negsuc k *ℤ pos d)
below_zero zero k p d h = omega (arith, ints, h)
below_zero (suc n) k p d h = omega (arith, ints, h)

same_signs : (units : ℤ) (n p d : ℕ) → n * p ≡ unsigned_abs units * d → (signed_whole (is_negative units) n *ℤ pos p) ≡ (units *ℤ pos d)
same_signs (pos k) n p d h = rw (none_below k) (omega (arith, ints, h))
same_signs (negsuc k) n p d h = rw (some_above k) (below_zero n k p d h)

below_limit : (minus : Bool) (n d : ℕ) → n < 10 ^ 15 * d → is_below_limit (record { numerator = signed_whole minus n; denominator = d }) ≡ true
below_limit minus n d h = rw (unsigned_abs-signed_whole minus n) (grind (arith, nat_tests))

pub coordinate_is_read : (places : ℕ) (units : ℤ) → IsBelow places units → IsRead places units
unfolding read_value
coordinate_is_read places units h =
    let size = unsigned_abs units in
    let w = size / 10 ^ places in
    let digits = fraction_digits places (size % 10 ^ places) in
    let small = whole_small size places h in
    let wide : w < 2 ^ 64 = omega (arith, small) in
    let behind : ArePlaces places (size % 10 ^ places) digits = fraction_places places (size % 10 ^ places) (mod-lt size (pow_ten_pos places)) in
    record {
      is = signed_value (is_negative units) (decimal w) digits (fraction_text places (size % 10 ^ places))
          (decimal_digits w wide) (decimal_nonempty w wide) behind.digits
          (fraction_tail places (size % 10 ^ places) behind.digits);
      same = record {
        positive = pow_ten_pos (length digits + 0);
        same = same_signs units _ (10 ^ places) (10 ^ (length digits + 0)) (same_size size places digits wide behind);
      };
      below = below_limit (is_negative units) _ (10 ^ (length digits + 0)) (size_below w digits places (size % 10 ^ places) small behind);
    }
