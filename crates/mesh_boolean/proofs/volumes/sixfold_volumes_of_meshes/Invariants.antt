use Rattle.std.proofs.Common.{◌≡◌}
use Rattle.mesh_boolean.specs.Volumes.{sixfold_volumes_of_meshes}
use Rattle.mesh_boolean.proofs.volumes.sixfold_volumes_of_meshes.Given as goal

abbrev pub invariant-loop-index : goal.invariant-loop-index
invariant-loop-index l = l.volumes.items ≡ sixfold_volumes_of_meshes l.scene.tris l.index
