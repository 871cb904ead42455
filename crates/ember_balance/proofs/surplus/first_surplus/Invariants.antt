use Rattle.std.proofs.Common.{◌≡◌, ◌≤◌, length, drop}
use Rattle.ember_balance.proofs.SortedSurplus.{walk}
use Rattle.ember_balance.proofs.surplus.first_surplus.Given as goal

abbrev pub invariant-loop-number : goal.invariant-loop-number
invariant-loop-number l =
    (l.i ≤ length l.there) × (walk l.back l.there ≡ walk (drop l.number-index l.back) (drop l.i l.there))
