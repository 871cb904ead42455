-- Moves of corners in ticks, squared
use Rattle.std.specs.Prelude.{ℕ, ◌+◌, ◌*◌, ◌^◌, max, List, [], ◌∷◌, slice_index}
use Rattle.ember_model.specs.declared.point.Axis.TheVariants.{X, Y, Z}
use Rattle.mesh_number.specs.Number.Fractions.{Fraction}
use Rattle.mesh_grid.specs.declared.snap.steps.GridStep.{GridStep}
use Rattle.mesh_grid.specs.declared.snap.offsets.Offset.{Offset}
use Rattle.mesh_write.specs.declared.stl.triangle.FloatPoint.{FloatPoint}
use Rattle.mesh_point.specs.declared.space_point.SpacePoint.{SpacePoint}
use Rattle.mesh_certificate.specs.declared.certificate.triangle.Triangle.{Triangle}
use Rattle.mesh_written.specs.Places.{place_of}
use Rattle.mesh_written.specs.Decimals.{units_of}
use Rattle.mesh_effect.specs.declared.rounding.tick.Tick.{Tick}
use Rattle.mesh_effect.specs.Rounding.Ticks.{ticks_between, decimal_tick}
use Rattle.mesh_effect.specs.Rounding.Floats.{float_number}

abbrev pub square : ℕ → ℕ
square n = n * n

-- ---- one corner, where each axis is rounded up to whole ticks
-- its move to a point of floats
abbrev pub float_square : Tick → GridStep → Offset → SpacePoint → FloatPoint → ℕ
float_square tick s o c p =
    square (ticks_between tick (place_of s o X c) (float_number p.x)) +
    (square (ticks_between tick (place_of s o Y c) (float_number p.y)) +
    square (ticks_between tick (place_of s o Z c) (float_number p.z)))

-- the decimal with these places that is written for a number
abbrev pub decimal_number : ℕ → Fraction → Fraction
decimal_number places v = record { numerator = units_of places v; denominator = 10 ^ places }

abbrev pub decimal_ticks : ℕ → Fraction → ℕ
decimal_ticks places v = ticks_between (decimal_tick places) v (decimal_number places v)

-- its move to its decimals
abbrev pub decimal_square : ℕ → GridStep → Offset → SpacePoint → ℕ
decimal_square places s o c =
    square (decimal_ticks places (place_of s o X c)) +
    (square (decimal_ticks places (place_of s o Y c)) + square (decimal_ticks places (place_of s o Z c)))

-- ---- each corner of a table
abbrev pub float_squares : Tick → GridStep → Offset → List SpacePoint → List FloatPoint → List ℕ
float_squares tick s o [] ps = []
float_squares tick s o (c ∷ cs) [] = []
float_squares tick s o (c ∷ cs) (p ∷ ps) = float_square tick s o c p ∷ float_squares tick s o cs ps

-- ---- the corners of triangles
-- the greatest square of a triangle's corners; what is no corner, of no triangle, counts as 0
abbrev pub triangle_square : List ℕ → Triangle → ℕ
triangle_square squares t =
    max (max (slice_index squares t.first.start) (slice_index squares t.second.start))
    (slice_index squares t.third.start)
