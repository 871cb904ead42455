use Rattle.std.proofs.Common.{◌<◌, ◌≤◌, length}
use Rattle.ember_algebra.specs.Relations.{Each}
use Rattle.ember_leaf.specs.Written.{HasGrown}
use Rattle.ember_point.specs.Points.{spot_of}
use Rattle.ember_poly.specs.Sides.{ring_edges}
use Rattle.ember_text.specs.Texts.{IsEdgeText}
use Rattle.ember_text.proofs.TurnedEdges.{turned_from}
use Rattle.ember_text.proofs.edges.put_turned_edges.Given as goal

abbrev pub invariant-loop-next : goal.invariant-loop-next
invariant-loop-next l = record {
  first : 1 ≤ l.next;
  last : l.next < length l.edges;
  grown : HasGrown (Each IsEdgeText (turned_from (ring_edges spot_of l.edges l.corners) l.next)) l.fn.out.items l.out.items;
}

abbrev pub decreases-loop-next : goal.decreases-loop-next
decreases-loop-next l = l.next
