use Rattle.std.proofs.Common.{◌≡◌, ◌++◌, flat_map, take}
use Rattle.mesh_write.specs.Glb.Written.{corner_bytes}
use Rattle.mesh_write.proofs.glb.writing.put_all_corners.Given as goal

abbrev pub invariant-loop-triangle : goal.invariant-loop-triangle
invariant-loop-triangle l = l.out.items ≡ l.fn.out.items ++ flat_map corner_bytes (take l.triangle-index l.triangles)
