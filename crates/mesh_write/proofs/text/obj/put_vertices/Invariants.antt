use Rattle.std.proofs.Common.{◌≡◌, ◌++◌, flat_map, take}
use Rattle.mesh_write.specs.Text.Texts.{obj_vertex}
use Rattle.mesh_write.proofs.text.obj.put_vertices.Given as goal

abbrev pub invariant-loop-point : goal.invariant-loop-point
invariant-loop-point l = l.out.items ≡ l.fn.out.items ++ flat_map (obj_vertex l.places) (take l.point-index l.points)
