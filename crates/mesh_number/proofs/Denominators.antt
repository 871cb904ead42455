-- The denominators of numbers.
use Rattle.std.proofs.Common.{◌<◌, ◌+◌, length}
use Rattle.std.proofs.lemmas.Nat.{pow_pos}
use Rattle.mesh_number.specs.declared.number.values.Number.{Number}
use Rattle.mesh_number.specs.declared.number.values.Number.TheVariants as number
use Rattle.mesh_number.specs.Number.Values.{value_of, places_left}
use Rattle.mesh_number.proofs.DigitNumbers.{pow_ten_pos}

-- each is above 0
pub denominator_pos : (x : Number) → 0 < (value_of x).denominator
denominator_pos (number.Decimal d) = pow_ten_pos (length d.fraction.now + places_left d.exponent)
denominator_pos (number.Binary b) = pow_pos b.scale
