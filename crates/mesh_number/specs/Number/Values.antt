-- The exact value of a number
use Rattle.std.specs.Prelude.{ℕ, ◌+◌, ◌*◌, ◌^◌, Bool, List, ◌++◌, length, if◌then◌else◌}
use Rattle.ember_dec.specs.Digits.{number_from}
use Rattle.mesh_number.specs.declared.number.values.Exponent.{Exponent}
use Rattle.mesh_number.specs.declared.number.values.Decimal.{Decimal}
use Rattle.mesh_number.specs.declared.number.values.Number.{Number}
use Rattle.mesh_number.specs.declared.number.values.Number.TheVariants as number
use Rattle.mesh_number.specs.Number.Fractions.{Fraction, signed_whole}

-- by how many places an exponent moves the point to the right, and to the left
abbrev pub places_right : Exponent → ℕ
places_right e = if e.minus then 0 else e.size

abbrev pub places_left : Exponent → ℕ
places_left e = if e.minus then e.size else 0

-- digits before and after the point, times a power of ten
abbrev pub decimal_value : Bool → List ℕ → List ℕ → Exponent → Fraction
decimal_value minus whole fraction e = record {
  numerator = signed_whole minus (number_from 0 (whole ++ fraction) * 10 ^ places_right e);
  denominator = 10 ^ (length fraction + places_left e);
}

-- a whole number times a power of two, divided by another
abbrev pub binary_value : Bool → ℕ → ℕ → ℕ → Fraction
binary_value minus significand power scale = record {
  numerator = signed_whole minus (significand * 2 ^ power);
  denominator = 2 ^ scale;
}

-- the size of a numerator
abbrev pub decimal_over : Decimal → ℕ
decimal_over d = number_from 0 (d.whole.now ++ d.fraction.now) * 10 ^ places_right d.exponent

abbrev pub decimal_under : Decimal → ℕ
decimal_under d = 10 ^ (length d.fraction.now + places_left d.exponent)

-- the exact value of a number
abbrev pub value_of : Number → Fraction
value_of (number.Decimal d) = decimal_value d.minus d.whole.now d.fraction.now d.exponent
value_of (number.Binary b) = binary_value b.minus b.significand b.power b.scale
