use Rattle.std.proofs.Common.{take}
use Rattle.ember_poly.proofs.InsideNotAbove.{Tested}
use Rattle.ember_poly.proofs.meeting.has_point_within_by_chords.Given as goal

abbrev pub invariant-loop-edge : goal.invariant-loop-edge
invariant-loop-edge g l = Tested l.r l.edges l.free (take l.edge-index l.edges)
