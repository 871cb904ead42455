use Rattle.std.proofs.Common.{take}
use Rattle.ember_leaf.specs.Cutters.{AreSplit}
use Rattle.ember_leaf.proofs.regions.count_apart.Given as goal

abbrev pub invariant-loop-i : goal.invariant-loop-i
invariant-loop-i g l = AreSplit l.cutter (take l.i l.list) (take l.i l.list)
