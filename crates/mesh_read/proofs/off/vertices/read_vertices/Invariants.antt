use Rattle.std.proofs.Common.{◌≡◌, ◌+◌, ◌≤◌, length, take, drop, map}
use Rattle.mesh_read.specs.Surface.Surfaces.{point_of}
use Rattle.mesh_read.specs.Off.RowViews.{rows_in}
use Rattle.mesh_read.specs.Off.ReadOff.{in_front, points_of}
use Rattle.mesh_read.proofs.off.vertices.read_vertices.Given as goal

abbrev pub invariant-loop-left : goal.invariant-loop-left
invariant-loop-left l = record {
  numbered : l.rest.number ≤ l.rest.rest.start + 1;
  enough : l.left ≤ length (rows_in l.rest);
  same : points_of (take l.count (rows_in l.rows)) ≡ in_front (map point_of l.vertices.items) (points_of (take l.left (rows_in l.rest)));
  behind : drop l.count (rows_in l.rows) ≡ drop l.left (rows_in l.rest);
}

abbrev pub decreases-loop-left : goal.decreases-loop-left
decreases-loop-left l = l.left
