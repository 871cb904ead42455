use Rattle.std.proofs.Common.{◌≡◌, ◌≤◌, []}
use Rattle.mesh_ply.specs.CursorViews.{cursor_of, left_at}
use Rattle.mesh_ply.specs.Rows.{corners_from}
use Rattle.mesh_ply.proofs.properties.read_corners.Given as goal

abbrev pub invariant-loop-left : goal.invariant-loop-left
invariant-loop-left l = record {
  same : corners_from l.place l.item l.size [] (cursor_of l.cursor) ≡ corners_from l.place l.item l.left l.corners.items (cursor_of l.rest);
  left : left_at l.rest ≤ left_at l.cursor;
}

abbrev pub decreases-loop-left : goal.decreases-loop-left
decreases-loop-left l = l.left
