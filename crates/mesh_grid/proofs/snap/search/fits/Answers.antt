use Rattle.std.proofs.Common.{refl}
use Rattle.mesh_grid.specs.Snap.Sizes.{limit_of}
use Rattle.mesh_grid.proofs.SpanSteps.{spans_fit}
use Rattle.mesh_grid.proofs.snap.search.fits.Goals as goal

pub returns-in-Some : goal.returns-in-Some
returns-in-Some c = (λ _. spans_fit (limit_of c.args.size) c.args.step.now c.args.coordinates.now c.in-Some.field-0 c.in-Some.ensures.found, λ _. refl)
