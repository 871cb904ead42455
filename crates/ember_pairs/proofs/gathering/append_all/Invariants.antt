use Rattle.std.proofs.Common.{◌≡◌, take}
use Rattle.ember_pairs.specs.Gathering.{together}
use Rattle.ember_pairs.proofs.gathering.append_all.Given as goal

abbrev pub invariant-loop-item : goal.invariant-loop-item
invariant-loop-item l = l.all.items ≡ together (take l.item-index l.items)
