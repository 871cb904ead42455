use Rattle.std.proofs.Common.{◌≡◌, ◌+◌, ◌≤◌, ◌<◌, ◌^◌, length}
use Rattle.mesh_read.specs.Surface.Surfaces.{content_of}
use Rattle.mesh_ply.specs.CursorViews.{cursor_of, left_at}
use Rattle.mesh_ply.specs.ReadPly.{rows_from}
use Rattle.mesh_ply.proofs.elements.read_rows.Given as goal

abbrev pub invariant-loop-left : goal.invariant-loop-left
invariant-loop-left l = record {
  same : rows_from l.element l.declarations 1 l.element.count (content_of l.fn.surface) (cursor_of l.cursor) ≡ rows_from
      l.element l.declarations l.number l.left (content_of l.surface) (cursor_of l.rest);
  few : length l.surface.vertices.items + left_at l.rest < 2 ^ 31;
  numbered : l.number + left_at l.rest ≤ 2 ^ 31;
}

abbrev pub decreases-loop-left : goal.decreases-loop-left
decreases-loop-left l = l.left
