use Rattle.std.proofs.Common.{◌≡◌, map, take}
use Rattle.mesh_scene.specs.Scene.Images.{meshes_on, counts_on}
use Rattle.mesh_scene.proofs.scene.scene.meshes_of.Given as goal

abbrev pub invariant-loop-index : goal.invariant-loop-index
invariant-loop-index l = record {
  tris : map (λ part. part.tris) l.meshes.parts.items ≡ meshes_on l.grid 1 (take l.index l.surfaces);
  counts : l.meshes.counts.items ≡ map (counts_on l.grid) (take l.index l.surfaces);
}
