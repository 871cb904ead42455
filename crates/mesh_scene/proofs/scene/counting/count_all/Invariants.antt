use Rattle.std.proofs.Common.{◌≡◌, ◌≤◌, ◌*◌, ◌^◌, length, take}
use Rattle.mesh_scene.specs.Scene.Images.{images_of}
use Rattle.mesh_scene.proofs.scene.counting.count_all.Given as goal

abbrev pub invariant-loop-surface : goal.invariant-loop-surface
invariant-loop-surface l =
    (l.count ≡ length (images_of l.grid (take l.surface-index l.surfaces))) × (l.count ≤ 2 ^ 64 * l.surface-index)
