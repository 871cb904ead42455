use Rattle.ember_visit.proofs.KnownInBox.{known_at_corners}
use Rattle.ember_visit.proofs.law.known_values_are_true.Goals as goal

pub returns : goal.returns
returns c = λ ts meshes f job known v scene fit is e at. known_at_corners ts meshes scene f fit job is known e v at
