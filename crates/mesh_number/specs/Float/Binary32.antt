-- The binary32 nearest to a fraction; of two, the one with the even significand
use Rattle.std.specs.Prelude.{◌≡◌, ◌≢◌, ℕ, ◌%◌, ◌^◌, ◌≤◌, ℤ, pos, ◌-ℤ◌, ◌*ℤ◌, Some, unsigned_abs}
use Rattle.mesh_number.specs.Number.Fractions.{Fraction}
use Rattle.mesh_number.specs.Number.Floats.{binary32_value}

-- how far v lies from n / d, times d and the denominator of v, which is 2^149 for each binary32
abbrev pub distance : ℤ → ℕ → Fraction → ℕ
distance n d v = unsigned_abs (n *ℤ pos v.denominator -ℤ v.numerator *ℤ pos d)

-- these are the bits of a finite number; no other is nearer to n / d, and their significand is even if one is as
-- near. They aren't those of -0.
pub record IsNearestBinary32 (n : ℤ) (d bits : ℕ) : Type 0 where
  pub value : Fraction
  pub finite : binary32_value bits ≡ Some value
  pub near : (other : ℕ) (w : Fraction) → binary32_value other ≡ Some w → distance n d value ≤ distance n d w
  pub even : (other : ℕ) (w : Fraction) → binary32_value other ≡ Some w → w ≢ value →
      distance n d w ≤ distance n d value → bits % 2 ≡ 0
  pub no_negative_zero : bits ≢ 2 ^ 31
