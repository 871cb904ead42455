use Rattle.ember_verdict.proofs.OneSolid.{slices_mean, slices_once_at_most}
use Rattle.ember_verdict.proofs.one_solid.slices_of_solids_mean_the_expression.Goals as goal

pub returns-clause-clear : goal.returns-clause-clear
returns-clause-clear c = slices_mean

pub returns-clause-once : goal.returns-clause-once
returns-clause-once c = slices_once_at_most
