use Rattle.ember_meaning.proofs.ClosedSurfaces.{paired_faces}
use Rattle.ember_meaning.proofs.closed.law.agreeing_faces_have_paired_pieces.Goals as goal

pub returns : goal.returns
returns c = paired_faces
