use Rattle.ember_meaning.proofs.ClosedSurfaces.{closed_faces}
use Rattle.ember_meaning.proofs.closed.law.agreeing_faces_are_closed.Goals as goal

pub returns : goal.returns
returns c = closed_faces
