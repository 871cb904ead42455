use Rattle.std.proofs.Common.{◌≡◌, take}
use Rattle.mesh_effect.specs.Rounding.Ticks.{power_tick}
use Rattle.mesh_effect.specs.Rounding.Squares.{float_squares}
use Rattle.mesh_effect.proofs.rounding.floats.float_squares.Given as goal

abbrev pub invariant-loop-k : goal.invariant-loop-k
invariant-loop-k l =
    l.squares.items ≡ float_squares (power_tick l.top) l.step l.offset (take l.k l.corners) (take l.k l.points)
