use Rattle.std.proofs.Common.{◌≡◌, ◌⊎◌, ◌≤◌, ◌<◌, length}
use Rattle.mesh_ply.specs.CursorViews.{cursor_of, left_at}
use Rattle.mesh_ply.specs.Rows.{properties}
use Rattle.mesh_ply.specs.RowViews.{row_of}
use Rattle.mesh_ply.proofs.row_reading.read_properties.Given as goal

abbrev pub invariant-loop-declaration : goal.invariant-loop-declaration
invariant-loop-declaration l = record {
  same : properties l.place l.declarations (row_of l.fn.row) (cursor_of l.cursor) ≡ properties l.place l.declared (row_of l.row) (cursor_of l.rest);
  left : left_at l.rest ≤ left_at l.cursor;
  started : (l.declared ≡ l.declarations) ⊎ (left_at l.rest < left_at l.cursor);
}

abbrev pub decreases-loop-declaration : goal.decreases-loop-declaration
decreases-loop-declaration l = length l.declared
