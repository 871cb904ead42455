use Rattle.ember_verdict.proofs.AcceptedInputs.{accepted_is_scene}
use Rattle.ember_verdict.proofs.accepted.accepted_files_are_a_scene.Goals as goal

pub returns : goal.returns
returns c = accepted_is_scene
