use Rattle.std.proofs.Common.{◌≡◌, ◌+◌, ◌<◌, ◌^◌, length}
use Rattle.mesh_read.specs.Surface.Surfaces.{content_of}
use Rattle.mesh_ply.specs.CursorViews.{cursor_of, left_at}
use Rattle.mesh_ply.specs.ReadPly.{elements_from}
use Rattle.mesh_ply.proofs.elements.read_elements.Given as goal

abbrev pub invariant-loop-declaration : goal.invariant-loop-declaration
invariant-loop-declaration l = record {
  same : elements_from l.declarations (content_of l.fn.surface) (cursor_of l.cursor) ≡ elements_from l.declared (content_of l.surface) (cursor_of l.rest);
  few : length l.surface.vertices.items + left_at l.rest < 2 ^ 31;
}

abbrev pub decreases-loop-declaration : goal.decreases-loop-declaration
decreases-loop-declaration l = length l.declared
