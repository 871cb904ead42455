use Rattle.std.proofs.Common.{◌≡◌, map, take}
use Rattle.mesh_effect.specs.Rounding.Squares.{decimal_square}
use Rattle.mesh_effect.proofs.rounding.decimals.decimal_squares.Given as goal

abbrev pub invariant-loop-corner : goal.invariant-loop-corner
invariant-loop-corner l = l.squares.items ≡ map (decimal_square l.places l.step l.offset) (take l.corner-index l.corners)
