use Rattle.std.proofs.Common.{◌≡◌, map, take}
use Rattle.mesh_written.specs.Decimals.{decimal_point}
use Rattle.mesh_written.proofs.decimal_points.decimal_points.Given as goal

abbrev pub invariant-loop-corner : goal.invariant-loop-corner
invariant-loop-corner l = l.points.items ≡ map (decimal_point l.places l.step l.offset) (take l.corner-index l.corners)
