use Rattle.std.proofs.Common.{◌≡◌, ◌≤◌, ◌-◌}
use Rattle.mesh_gltf.specs.Corners.{corners_from, corners_in}
use Rattle.mesh_gltf.proofs.Parts.{behind}
use Rattle.mesh_gltf.proofs.corners.read_corners.Given as goal

abbrev pub invariant-loop-index : goal.invariant-loop-index
invariant-loop-index l = record {
  within : l.index ≤ l.window.count;
  same : corners_in l.base l.points l.size l.window l.bytes ≡ behind l.corners.items
      (corners_from l.base l.points l.size l.window l.bytes l.index (l.window.count - l.index));
}

abbrev pub decreases-loop-index : goal.decreases-loop-index
decreases-loop-index l = l.window.count - l.index
