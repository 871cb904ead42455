use Rattle.ember_meaning.proofs.WholeFaces.{whole_meaning}
use Rattle.ember_meaning.proofs.whole.law.whole_faces_keep_the_meaning.Goals as goal

pub returns : goal.returns
returns c = whole_meaning
