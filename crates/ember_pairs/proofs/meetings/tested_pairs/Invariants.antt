use Rattle.std.proofs.Common.{drop}
use Rattle.ember_pairs.specs.Pairs.{Completes, pairs_of}
use Rattle.ember_pairs.proofs.meetings.tested_pairs.Given as goal

abbrev pub invariant-loop-a : goal.invariant-loop-a
invariant-loop-a l = Completes l.tris (pairs_of l.list) (pairs_of (drop l.a l.list)) l.out.items
