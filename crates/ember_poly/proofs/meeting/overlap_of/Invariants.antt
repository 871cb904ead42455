use Rattle.std.proofs.Common.{take}
use Rattle.ember_poly.proofs.InsideNotAbove.{Counted}
use Rattle.ember_poly.proofs.meeting.overlap_of.Given as goal

abbrev pub invariant-loop-edge : goal.invariant-loop-edge
invariant-loop-edge g l = Counted l.r l.is_cut l.is_cut_twice (take l.edge-index l.edges)
