use Rattle.std.proofs.Common.{◌≡◌, take, true}
use Rattle.ember_trace.specs.Paths.{path_of, side_at_end}
use Rattle.ember_trace.specs.Lines.{all_behind}
use Rattle.ember_trace.proofs.edges.are_behind_at_end.Given as goal

abbrev pub invariant-loop-p : goal.invariant-loop-p
invariant-loop-p g l = all_behind (λ p. side_at_end (path_of l.fn.way) p) (take l.p-index l.planes) ≡ true
