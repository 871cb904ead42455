use Rattle.std.proofs.Common.{◌≡◌, ◌*◌, drop}
use Rattle.ember_algebra.specs.Size.{Small}
use Rattle.ember_expr.specs.Truth.{sum_of, sum_from}
use Rattle.ember_expr.proofs.truth.sum_value.Given as goal

abbrev pub invariant-loop-term : goal.invariant-loop-term
invariant-loop-term l = record {
  same : sum_of l.v.counts l.terms ≡ sum_from l.sum l.v.counts (drop l.term-index l.terms);
  small : Small (16777216000000 * l.term-index) l.sum;
}
