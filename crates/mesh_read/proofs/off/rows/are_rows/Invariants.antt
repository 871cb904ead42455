use Rattle.std.proofs.Common.{◌≡◌, ◌+◌, ◌≤◌, length}
use Rattle.std.specs.Prelude.{nat_le}
use Rattle.mesh_read.specs.Off.RowViews.{rows_in}
use Rattle.mesh_read.proofs.off.rows.are_rows.Given as goal

abbrev pub invariant-loop-left : goal.invariant-loop-left
invariant-loop-left l = record {
  numbered : l.rest.number ≤ l.rest.rest.start + 1;
  same : nat_le l.count (length (rows_in l.rows)) ≡ nat_le l.left (length (rows_in l.rest));
}

abbrev pub decreases-loop-left : goal.decreases-loop-left
decreases-loop-left l = l.left
