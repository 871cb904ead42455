-- What calls give of corners whose places are rounded
use Rattle.std.specs.Prelude.{◌≡◌, ℕ, List, MatchOption}
use Rattle.std.specs.Global.{Vec}
use Rattle.std.specs.declared.option.Option.{Option}
use Rattle.ember_wide.specs.Whole.{value_of}
use Rattle.mesh_certificate.specs.declared.certificate.triangle.Triangle.{Triangle}
use Rattle.mesh_grid.specs.declared.snap.offsets.Offset.{Offset}
use Rattle.mesh_grid.specs.declared.snap.steps.GridStep.{GridStep}
use Rattle.mesh_number.specs.Number.Fractions.{Fraction}
use Rattle.mesh_number.specs.Float.Binary32.{distance}
use Rattle.mesh_point.specs.declared.space_point.SpacePoint.{SpacePoint}
use Rattle.mesh_write.specs.declared.stl.triangle.FloatPoint.{FloatPoint}
use Rattle.mesh_written.specs.declared.ratio.Ratio.{Ratio}
use Rattle.mesh_written.specs.Decimals.{IsFarPoint, IsTooLong}
use Rattle.mesh_written.specs.Floats.{IsInfinite, IsTooFar}
use Rattle.mesh_effect.specs.declared.rounding.length.Move.{Move}
use Rattle.mesh_effect.specs.Rounding.Floats.{float_number}
use Rattle.mesh_effect.specs.Rounding.Greatest.{greatest_decimal_move, greatest_float_move}
use Rattle.mesh_effect.specs.Rounding.Shown.{rounded_of}
use Rattle.mesh_effect.specs.Rounding.Squares.{decimal_number, decimal_square, decimal_ticks, float_square, float_squares}
use Rattle.mesh_effect.specs.Rounding.Ticks.{power_tick, ticks_between}

-- ---- errors
-- how far the nearest decimal with these places is from the number, times the number's denominator, in units of the
-- last place
abbrev pub decimal_error : ℕ → Fraction → ℕ
decimal_error places v = distance v.numerator v.denominator (decimal_number places v)

-- how far the float with these bits is from the number, times both denominators
abbrev pub float_error : Ratio → ℕ → ℕ
float_error number bits = distance (value_of number.numerator) number.denominator (float_number bits)

-- ---- ticks along an axis, and squares of moves
abbrev pub AreDecimalTicks : ℕ → Fraction → Option ℕ → Type 0
AreDecimalTicks places v result = MatchOption result (IsTooLong v) (λ ticks. ticks ≡ decimal_ticks places v)

abbrev pub AreFloatTicks : ℕ → ℕ → Fraction → Option ℕ → Type 0
AreFloatTicks top bits v result =
    MatchOption result (IsInfinite v) (λ ticks. ticks ≡ ticks_between (power_tick top) v (float_number bits))

abbrev pub IsDecimalSquare : ℕ → GridStep → Offset → SpacePoint → Option ℕ → Type 0
IsDecimalSquare places s o c result =
    MatchOption result (IsFarPoint s o c) (λ square. square ≡ decimal_square places s o c)

abbrev pub IsFloatSquare : ℕ → GridStep → Offset → SpacePoint → FloatPoint → Option ℕ → Type 0
IsFloatSquare top s o c p result =
    MatchOption result (IsTooFar s o c) (λ square. square ≡ float_square (power_tick top) s o c p)

abbrev pub AreFloatSquares : ℕ → GridStep → Offset → List SpacePoint → List FloatPoint → Vec ℕ → Type 0
AreFloatSquares top s o cs ps squares = squares.items ≡ float_squares (power_tick top) s o cs ps

-- ---- the greatest move
abbrev pub IsGreatestFloatMove : GridStep → Offset → List SpacePoint → List FloatPoint → List Triangle → Move → Type 0
IsGreatestFloatMove s o cs ps ts m = rounded_of m ≡ greatest_float_move s o cs ps ts

abbrev pub IsGreatestDecimalMove : ℕ → GridStep → Offset → List SpacePoint → List Triangle → Move → Type 0
IsGreatestDecimalMove places s o cs ts m = rounded_of m ≡ greatest_decimal_move places s o cs ts
