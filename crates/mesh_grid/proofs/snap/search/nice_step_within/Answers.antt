use Rattle.std.proofs.Common.{ℕ, below_more, arith}
use Rattle.mesh_grid.specs.Snap.Steps.{nice_of}
use Rattle.mesh_grid.specs.Snap.Spans.{FitsAllWithin}
use Rattle.mesh_grid.specs.Snap.Sizes.{limit_of}
use Rattle.mesh_grid.proofs.SpanSteps.{when_not}
use Rattle.mesh_grid.proofs.snap.search.nice_step_within.Goals as goal

pub returns-then-fits-clause-found : goal.returns-then-fits-clause-found
returns-then-fits-clause-found c = record {
  rank = c.loop-rank.rank;
  step = c.nice-step.ensures.value;
  fits = c.fits.ensures.0 c.if-fits.true;
  least = c.loop-rank.invariant;
}

pub loop-rank-preserved : goal.loop-rank-preserved
loop-rank-preserved c =
    below_more (λ (rank : ℕ). FitsAllWithin (limit_of c.args.size) (nice_of rank) c.args.coordinates.now → ⊥) c.loop-rank.rank c.loop-rank.invariant
    (rw c.nice-step.ensures.value at (when_not c.fits.result c.if-fits.false c.fits.ensures))

pub returns-clause-none : goal.returns-clause-none
returns-clause-none c = λ rank less fits. c.loop-rank.invariant rank (omega arith) fits
