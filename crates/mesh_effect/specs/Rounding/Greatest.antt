-- The greatest move of a corner of triangles
use Rattle.std.specs.Prelude.{ℕ, List, map}
use Rattle.mesh_grid.specs.declared.snap.steps.GridStep.{GridStep}
use Rattle.mesh_grid.specs.declared.snap.offsets.Offset.{Offset}
use Rattle.mesh_write.specs.declared.stl.triangle.FloatPoint.{FloatPoint}
use Rattle.mesh_point.specs.declared.space_point.SpacePoint.{SpacePoint}
use Rattle.mesh_certificate.specs.declared.certificate.triangle.Triangle.{Triangle}
use Rattle.mesh_effect.specs.Rounding.Ticks.{power_tick, decimal_tick}
use Rattle.mesh_effect.specs.Rounding.Maximum.{greatest_of}
use Rattle.mesh_effect.specs.Rounding.Floats.{top_place}
use Rattle.mesh_effect.specs.Rounding.Squares.{float_squares, decimal_square, triangle_square}
use Rattle.mesh_effect.specs.Rounding.Shown.{Rounded, move_from}

-- to points of floats
unfoldable pub greatest_float_move : GridStep → Offset → List SpacePoint → List FloatPoint → List Triangle → Rounded
greatest_float_move s o cs ps ts =
    let tick = power_tick (top_place ps) in
    move_from tick (greatest_of (triangle_square (float_squares tick s o cs ps)) ts)

-- to decimals with these places
unfoldable pub greatest_decimal_move : ℕ → GridStep → Offset → List SpacePoint → List Triangle → Rounded
greatest_decimal_move places s o cs ts =
    move_from (decimal_tick places) (greatest_of (triangle_square (map (decimal_square places s o) cs)) ts)
