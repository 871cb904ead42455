use Rattle.ember_verdict.proofs.ClosedMeshes.{balanced_file_is_closed}
use Rattle.ember_verdict.proofs.law.faces_of_closed_meshes_are_closed.Goals as goal

pub returns : goal.returns
returns c = balanced_file_is_closed
