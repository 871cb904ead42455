-- Exact numbers, and the whole numbers below their multiples
use Rattle.std.specs.Prelude.{ℕ, ◌*◌, ◌^◌, Bool, true, false, ℤ, pos, neg_ℤ, ◌*ℤ◌, Option, Some, None}
use Rattle.std.specs.Prelude.{if◌then◌else◌, nat_lt, unsigned_abs}
use Rattle.std.specs.Int.{int_div_euclid}

-- a whole number divided by one that is above 0
pub record Fraction : Type 0 where
  pub numerator : ℤ
  pub denominator : ℕ

-- a whole number as a fraction
abbrev pub whole_number : ℤ → Fraction
whole_number z = record { numerator = z; denominator = 1 }

-- a size with a sign
abbrev pub signed_whole : Bool → ℕ → ℤ
signed_whole false size = pos size
signed_whole true size = neg_ℤ (pos size)

-- the number is below 10^15 in size
abbrev pub is_below_limit : Fraction → Bool
is_below_limit v = nat_lt (unsigned_abs v.numerator) (10 ^ 15 * v.denominator)

-- the greatest whole number that isn't above the multiple of v
abbrev pub floor_of_multiple : ℕ → Fraction → ℤ
floor_of_multiple factor v = int_div_euclid (pos factor *ℤ v.numerator) (pos v.denominator)

-- the same, for numbers below the limit
abbrev pub floor_times : ℕ → Fraction → Option ℤ
floor_times factor v = if is_below_limit v then Some (floor_of_multiple factor v) else None
