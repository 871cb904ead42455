use Rattle.std.proofs.Common.{take}
use Rattle.ember_poly.specs.Passages.{AreSigns}
use Rattle.ember_poly.proofs.reaching.reach_of_corners.Given as goal

abbrev pub invariant-loop-m : goal.invariant-loop-m
invariant-loop-m g l = AreSigns g.W.Width.spot l.p (take l.m-index l.corners) l.seen
