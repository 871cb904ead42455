use Rattle.std.proofs.Common.{◌≡◌, take}
use Rattle.std.specs.List.{fold}
use Rattle.mesh_write.specs.Glb.Widened.{widened}
use Rattle.mesh_write.proofs.glb.bounds.bounds_of.Given as goal

abbrev pub invariant-loop-triangle : goal.invariant-loop-triangle
invariant-loop-triangle l = l.bounds ≡ fold widened l.initial.bounds (take l.triangle-index l.triangles)
