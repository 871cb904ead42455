use Rattle.std.proofs.Common.{arith}
use Rattle.mesh_grid.proofs.WidestSteps.{nice_step_fits}
use Rattle.mesh_grid.proofs.grid.choice.least_nice_step.Goals as goal

pub unreachable-requires : goal.unreachable-requires
unreachable-requires c = c.in-None.ensures.none 71 (omega arith) (nice_step_fits c.args.coordinates.now c.requires)
