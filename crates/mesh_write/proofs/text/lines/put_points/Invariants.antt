use Rattle.std.proofs.Common.{◌≡◌, ◌++◌, flat_map, take}
use Rattle.mesh_write.specs.Text.Lines.{point_line}
use Rattle.mesh_write.proofs.text.lines.put_points.Given as goal

abbrev pub invariant-loop-point : goal.invariant-loop-point
invariant-loop-point l = l.out.items ≡ l.fn.out.items ++ flat_map (point_line l.places) (take l.point-index l.points)
