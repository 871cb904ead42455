use Rattle.ember_meaning.proofs.ShiftedPoints.{clear_shifted_faces}
use Rattle.ember_meaning.proofs.closed.law.outlined_faces_are_missed_nearby.Goals as goal

pub returns : goal.returns
returns c = λ ws lines p weight. clear_shifted_faces p weight ws lines
