use Rattle.std.proofs.Common.{arith}
use Rattle.mesh_grid.proofs.NiceSteps.{fine_is_step}
use Rattle.mesh_grid.proofs.snap.steps.fine.Goals as goal

pub returns-clause-step : goal.returns-clause-step
returns-clause-step c =
    rw (c.pow.ensures, c.pow-2.ensures, c.from-number.ensures)
    (fine_is_step c.fine_number.result c.saturating_sub.result c.saturating_sub-2.result c.fine_number.ensures.positive
    c.fine_number.ensures.small (omega (arith, c.fine_decade-decade.ensures.small)) (omega arith))
