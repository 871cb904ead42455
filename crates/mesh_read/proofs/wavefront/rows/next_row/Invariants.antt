use Rattle.std.proofs.Common.{◌≡◌, ◌+◌, ◌≤◌, length, map}
use Rattle.mesh_read.specs.Scan.Parts.{piece_of}
use Rattle.mesh_read.specs.Wavefront.Rows.{joined_to}
use Rattle.mesh_read.specs.Wavefront.RowViews.{rows_in}
use Rattle.mesh_read.proofs.wavefront.rows.next_row.Given as goal

abbrev pub invariant-loop-line : goal.invariant-loop-line
invariant-loop-line l = record {
  same : rows_in l.rows ≡ joined_to l.rows.number (map piece_of l.words.items) (rows_in l.left);
  numbered : l.left.number ≤ l.left.rest.start + 1;
  shorter : length l.left.rest.bytes.now ≤ length l.rows.rest.bytes.now;
}

abbrev pub decreases-loop-line : goal.decreases-loop-line
decreases-loop-line l = length l.left.rest.bytes.now
