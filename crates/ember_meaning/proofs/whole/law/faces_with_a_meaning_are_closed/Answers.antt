use Rattle.ember_meaning.proofs.WholeFaces.{meaning_is_closed}
use Rattle.ember_meaning.proofs.whole.law.faces_with_a_meaning_are_closed.Goals as goal

pub returns : goal.returns
returns c = meaning_is_closed
