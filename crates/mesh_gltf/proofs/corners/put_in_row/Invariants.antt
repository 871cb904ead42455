use Rattle.std.proofs.Common.{◌≡◌, ◌≤◌, ◌-◌, ◌+◌, ◌++◌}
use Rattle.mesh_gltf.specs.Corners.{corners_in_row}
use Rattle.mesh_gltf.proofs.corners.put_in_row.Given as goal

abbrev pub invariant-loop-index : goal.invariant-loop-index
invariant-loop-index l = record {
  within : l.index ≤ l.points;
  same : corners_in_row l.first l.points ≡ l.corners.items ++ corners_in_row (l.first + l.index) (l.points - l.index);
}

abbrev pub decreases-loop-index : goal.decreases-loop-index
decreases-loop-index l = l.points - l.index
