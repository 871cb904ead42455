use Rattle.mesh_grid.specs.Snap.Sizes.{limit_of}
use Rattle.mesh_grid.proofs.SpanSteps.{Covers}
use Rattle.mesh_grid.proofs.snap.spans.fitting_span.Given as goal

abbrev pub invariant-loop-number : goal.invariant-loop-number
invariant-loop-number l = Covers (limit_of l.fn.size) l.step l.numbers l.number-index l.span
