use Rattle.std.proofs.Common.{take}
use Rattle.ember_algebra.specs.Relations.{Each}
use Rattle.ember_leaf.specs.Written.{HasGrown}
use Rattle.ember_point.specs.Points.{spot_of}
use Rattle.ember_poly.specs.Sides.{ring_edges}
use Rattle.ember_text.specs.Texts.{IsEdgeText}
use Rattle.ember_text.proofs.edges.put_edges.Given as goal

abbrev pub invariant-loop-i : goal.invariant-loop-i
invariant-loop-i l = HasGrown (Each IsEdgeText (take l.i (ring_edges spot_of l.edges l.corners))) l.fn.out.items l.out.items
