use Rattle.std.proofs.Common.{◌≡◌, ◌++◌, flat_map, take}
use Rattle.mesh_write.specs.Glb.Written.{normal_bytes}
use Rattle.mesh_write.proofs.glb.writing.put_all_normals.Given as goal

abbrev pub invariant-loop-triangle : goal.invariant-loop-triangle
invariant-loop-triangle l = l.out.items ≡ l.fn.out.items ++ flat_map normal_bytes (take l.triangle-index l.triangles)
