use Rattle.std.proofs.Common.{◌≡◌, ◌≤◌, take}
use Rattle.ember_balance.specs.Counts.{count}
use Rattle.ember_balance.proofs.surplus.count.Given as goal

abbrev pub invariant-loop-other : goal.invariant-loop-other
invariant-loop-other l =
    (l.found ≡ count l.number (take l.other-index l.numbers)) × (l.found ≤ l.other-index)
