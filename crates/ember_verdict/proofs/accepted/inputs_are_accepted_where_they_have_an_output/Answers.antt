use Rattle.ember_verdict.proofs.AcceptedInputs.{accepted_has_output, accepted_has_slice}
use Rattle.ember_verdict.proofs.accepted.inputs_are_accepted_where_they_have_an_output.Goals as goal

pub returns-clause-outputs : goal.returns-clause-outputs
returns-clause-outputs c = accepted_has_output

pub returns-clause-slice : goal.returns-clause-slice
returns-clause-slice c = accepted_has_slice
