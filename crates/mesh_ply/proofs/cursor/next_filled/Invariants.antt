use Rattle.std.proofs.Common.{◌≡◌, ◌≤◌, length}
use Rattle.mesh_read.specs.Scan.Parts.{lines_in}
use Rattle.mesh_ply.specs.Cursors.{rows_of}
use Rattle.mesh_ply.proofs.cursor.next_filled.Given as goal

abbrev pub invariant-loop-line : goal.invariant-loop-line
invariant-loop-line l = record {
  same : rows_of (lines_in l.later) ≡ rows_of (lines_in l.rest);
  left : length l.rest.bytes.now ≤ length l.later.bytes.now;
}

abbrev pub decreases-loop-line : goal.decreases-loop-line
decreases-loop-line l = length l.rest.bytes.now
