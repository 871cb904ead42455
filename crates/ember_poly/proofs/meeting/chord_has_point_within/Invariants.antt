use Rattle.std.proofs.Common.{take}
use Rattle.ember_poly.proofs.ChordParts.{Tried}
use Rattle.ember_poly.proofs.meeting.chord_has_point_within.Given as goal

abbrev pub invariant-loop-edge : goal.invariant-loop-edge
invariant-loop-edge g l = Tried l.support l.p l.edges (g.W.Width.spot l.from) (g.W.Width.spot l.to) l.free (take l.edge-index l.edges)
