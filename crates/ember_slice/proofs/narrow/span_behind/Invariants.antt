use Rattle.std.proofs.Common.{drop}
use Rattle.ember_slice.proofs.Narrowing.{LeftOf}
use Rattle.ember_slice.proofs.narrow.span_behind.Given as goal

abbrev pub invariant-loop-p : goal.invariant-loop-p
invariant-loop-p l = LeftOf l.support l.at l.planes (drop l.p-index l.planes) l.interval
