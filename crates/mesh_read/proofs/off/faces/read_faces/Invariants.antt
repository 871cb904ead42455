use Rattle.std.proofs.Common.{◌≡◌, ◌+◌, ◌≤◌, length, take}
use Rattle.mesh_read.specs.Off.RowViews.{rows_in}
use Rattle.mesh_read.specs.Off.ReadOff.{in_front, facets_of}
use Rattle.mesh_read.proofs.off.faces.read_faces.Given as goal

abbrev pub invariant-loop-left : goal.invariant-loop-left
invariant-loop-left l = record {
  numbered : l.rest.number ≤ l.rest.rest.start + 1;
  enough : l.left ≤ length (rows_in l.rest);
  same : facets_of l.vertices (take l.count (rows_in l.rows)) ≡ in_front l.facets.items (facets_of l.vertices (take l.left (rows_in l.rest)));
}

abbrev pub decreases-loop-left : goal.decreases-loop-left
decreases-loop-left l = l.left
