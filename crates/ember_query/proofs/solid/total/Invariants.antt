use Rattle.std.proofs.Common.{◌≡◌, ◌+◌, length}
use Rattle.std.specs.List.{fold, sum}
use Rattle.ember_query.proofs.solid.total.Given as goal

abbrev pub invariant-loop-count : goal.invariant-loop-count
invariant-loop-count l = fold (λ n m. n + m) l.all l.rest ≡ sum l.initial.rest

abbrev pub decreases-loop-count : goal.decreases-loop-count
decreases-loop-count l = length l.rest
