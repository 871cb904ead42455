use Rattle.std.proofs.Common.{◌≡◌, ◌+◌, ◌≤◌, length}
use Rattle.mesh_read.specs.Off.RowViews.{rows_in}
use Rattle.mesh_read.proofs.off.rows.next_row.Given as goal

abbrev pub invariant-loop-line : goal.invariant-loop-line
invariant-loop-line l = record {
  same : rows_in l.fn.rows ≡ rows_in l.rows;
  numbered : l.rows.number ≤ l.rows.rest.start + 1;
  shorter : length l.rows.rest.bytes.now ≤ length l.fn.rows.rest.bytes.now;
}

abbrev pub decreases-loop-line : goal.decreases-loop-line
decreases-loop-line l = length l.rows.rest.bytes.now
