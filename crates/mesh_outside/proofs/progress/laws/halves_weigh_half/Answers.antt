use Rattle.mesh_outside.proofs.Halves.{left_weighs_half, right_weighs_half}
use Rattle.mesh_outside.proofs.progress.laws.halves_weigh_half.Goals as goal

pub returns-clause-left : goal.returns-clause-left
returns-clause-left c = left_weighs_half

pub returns-clause-right : goal.returns-clause-right
returns-clause-right c = right_weighs_half
