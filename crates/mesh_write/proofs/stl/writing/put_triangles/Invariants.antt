use Rattle.std.proofs.Common.{◌≡◌, ◌++◌, flat_map, take}
use Rattle.mesh_write.specs.Stl.Written.{triangle_bytes}
use Rattle.mesh_write.proofs.stl.writing.put_triangles.Given as goal

abbrev pub invariant-loop-triangle : goal.invariant-loop-triangle
invariant-loop-triangle l = l.out.items ≡ l.fn.out.items ++ flat_map triangle_bytes (take l.triangle-index l.triangles)
