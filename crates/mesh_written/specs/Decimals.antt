-- Corners as decimals
use Rattle.std.specs.Prelude.{ℕ, ◌*◌, ◌^◌, ◌≤◌, ℤ, pos, int_lt, unsigned_abs, List, ⊤}
use Rattle.std.specs.Prelude.{◌≡◌, MatchOption}
use Rattle.std.specs.declared.option.Option.{Option}
use Rattle.std.specs.List.{Any}
use Rattle.ember_model.specs.declared.point.Axis.{Axis}
use Rattle.ember_model.specs.declared.point.Axis.TheVariants.{X, Y, Z}
use Rattle.mesh_number.specs.Number.Fractions.{Fraction, signed_whole}
use Rattle.mesh_number.specs.Round.Nearest.{IsNearest, nearest_whole}
use Rattle.mesh_number.specs.Round.Decimals.{decimal_text}
use Rattle.mesh_grid.specs.declared.snap.steps.GridStep.{GridStep}
use Rattle.mesh_grid.specs.declared.snap.offsets.Offset.{Offset}
use Rattle.mesh_write.specs.declared.vertices.point.DecimalPoint.{DecimalPoint}
use Rattle.mesh_point.specs.declared.space_point.SpacePoint.{SpacePoint}
use Rattle.mesh_written.specs.declared.fault.PlaceFault.{PlaceFault}
use Rattle.mesh_written.specs.declared.fault.PlaceFault.TheVariants.{TooFar, OutOfMemory}
use Rattle.mesh_written.specs.Places.{place_of}

-- the text of the nearest decimal of at most this many places
abbrev pub decimal_of : Fraction → ℕ → List ℕ
decimal_of v places =
    let size = nearest_whole (unsigned_abs v.numerator * 10 ^ places) v.denominator in
    decimal_text (int_lt v.numerator (pos 0)) size places

-- the number is 10^21 or more in size
abbrev pub IsTooLong : Fraction → Type 0
IsTooLong v = 10 ^ 21 * v.denominator ≤ unsigned_abs v.numerator

-- ---- points
-- the whole number of units of the last of these places that is nearest; of two, the even one
abbrev pub units_of : ℕ → Fraction → ℤ
units_of places v =
    signed_whole (int_lt v.numerator (pos 0)) (nearest_whole (unsigned_abs v.numerator * 10 ^ places) v.denominator)

-- the decimal of so many of these units
abbrev pub text_of_units : ℕ → ℤ → List ℕ
text_of_units places units = decimal_text (int_lt units (pos 0)) (unsigned_abs units) places

-- no whole number of units is nearer to the size of the number; of two, this is the even one
abbrev pub AreNearestUnits : ℕ → Fraction → ℤ → Type 0
AreNearestUnits places v units =
    IsNearest (unsigned_abs v.numerator * 10 ^ places) v.denominator (unsigned_abs units)

-- so many units with the sign of the number
abbrev pub with_sign_of : Fraction → ℤ → ℤ
with_sign_of v units = signed_whole (int_lt v.numerator (pos 0)) (unsigned_abs units)

-- the decimal of the corner along the axis
abbrev pub place_text : GridStep → Offset → Axis → SpacePoint → ℕ → List ℕ
place_text s o axis c places = decimal_of (place_of s o axis c) places

-- the corner in the user's unit, rounded along each axis
abbrev pub decimal_point : ℕ → GridStep → Offset → SpacePoint → DecimalPoint
decimal_point places s o c = record {
  x = units_of places (place_of s o X c);
  y = units_of places (place_of s o Y c);
  z = units_of places (place_of s o Z c);
}

-- along some axis the corner is 10^21 or more from zero
pub record IsFarPoint (s : GridStep) (o : Offset) (c : SpacePoint) : Type 0 where
  pub axis : Axis
  pub long : IsTooLong (place_of s o axis c)

-- the point to which the corner is rounded, or none if it is too far away
abbrev pub IsPointIfNear : ℕ → GridStep → Offset → SpacePoint → Option DecimalPoint → Type 0
IsPointIfNear places s o c result =
    MatchOption result (IsFarPoint s o c) (λ point. point ≡ decimal_point places s o c)

abbrev pub IsDecimalFault : GridStep → Offset → List SpacePoint → PlaceFault → Type 0
IsDecimalFault s o cs TooFar = Any (IsFarPoint s o) cs
IsDecimalFault s o cs OutOfMemory = ⊤
