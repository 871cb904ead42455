use Rattle.std.proofs.Common.{◌≤◌, ◌+◌, take}
use Rattle.ember_balance.specs.Tallies.{IsTallied}
use Rattle.ember_balance.proofs.two_way.are_two_way.Given as goal

abbrev pub invariant-loop-number : goal.invariant-loop-number
invariant-loop-number l =
    record { tallied : IsTallied (take l.number-index l.numbers) l.tally; bound : l.tally.there + l.tally.back ≤ l.number-index }
