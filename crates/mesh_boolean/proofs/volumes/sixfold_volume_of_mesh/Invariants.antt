use Rattle.std.proofs.Common.{◌≡◌, ◌*◌, take}
use Rattle.ember_algebra.specs.Size.{Small}
use Rattle.mesh_boolean.specs.Volumes.{sixfold_volume_of_mesh}
use Rattle.mesh_boolean.proofs.volumes.sixfold_volume_of_mesh.Given as goal

abbrev pub invariant-loop-t : goal.invariant-loop-t
invariant-loop-t l = record {
  sum : l.sum ≡ sixfold_volume_of_mesh (take l.t-index l.tris) l.mesh;
  small : Small (l.t-index * 206158430207) l.sum;
}
