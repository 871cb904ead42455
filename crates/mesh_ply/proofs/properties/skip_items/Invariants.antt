use Rattle.std.proofs.Common.{◌≡◌, ◌≤◌}
use Rattle.mesh_ply.specs.CursorViews.{cursor_of, left_at}
use Rattle.mesh_ply.specs.Rows.{skipped}
use Rattle.mesh_ply.proofs.properties.skip_items.Given as goal

abbrev pub invariant-loop-left : goal.invariant-loop-left
invariant-loop-left l = record {
  same : skipped l.place l.item l.size (cursor_of l.cursor) ≡ skipped l.place l.item l.left (cursor_of l.rest);
  left : left_at l.rest ≤ left_at l.cursor;
}

abbrev pub decreases-loop-left : goal.decreases-loop-left
decreases-loop-left l = l.left
