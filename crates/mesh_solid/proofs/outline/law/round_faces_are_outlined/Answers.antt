use Rattle.mesh_solid.proofs.RoundOutlines.{round_is_outlined}
use Rattle.mesh_solid.proofs.outline.law.round_faces_are_outlined.Goals as goal

pub returns : goal.returns
returns c = round_is_outlined
