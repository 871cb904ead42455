use Rattle.std.proofs.Common.{◌+◌, List, ◌++◌, drop, get_or}
use Rattle.ember_pairs.specs.declared.pair.Pair.{Pair}
use Rattle.ember_pairs.specs.Pairs.{Completes, row}
use Rattle.ember_pairs.proofs.meetings.push_row.Given as goal

abbrev pub invariant-loop-b : goal.invariant-loop-b
invariant-loop-b l =
    (all later : List Pair) → Completes l.tris all (row (get_or l.list l.a 0) (drop (l.a + 1) l.list) ++ later)
    l.initial.out.items → Completes l.tris all (row (get_or l.list l.a 0) (drop l.b l.list) ++ later) l.out.items
