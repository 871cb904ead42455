use Rattle.std.proofs.Common.{take}
use Rattle.ember_leaf.proofs.Pieces.{AreUncut}
use Rattle.ember_leaf.proofs.regions.is_uncut.Given as goal

abbrev pub invariant-loop-p : goal.invariant-loop-p
invariant-loop-p g l = AreUncut l.r (take l.p-index l.planes)
