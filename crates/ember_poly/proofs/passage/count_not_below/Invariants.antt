use Rattle.std.proofs.Common.{take}
use Rattle.ember_poly.specs.Passages.{AreNotBelow}
use Rattle.ember_poly.proofs.passage.count_not_below.Given as goal

abbrev pub invariant-loop-i : goal.invariant-loop-i
invariant-loop-i g l = AreNotBelow g.W.Width.spot l.p l.high (take l.i l.corners)
