use Rattle.std.proofs.Common.{◌≡◌, Some, map, take}
use Rattle.mesh_arrays.specs.Doubles.{doubles_of}
use Rattle.mesh_arrays.proofs.doubles.double_points.Given as goal

abbrev pub invariant-loop-point : goal.invariant-loop-point
invariant-loop-point l = map (map Some) l.found.items ≡ map (doubles_of l.places) (take l.point-index l.points)
