use Rattle.ember_reread.proofs.OneOutline.{texts_one}
use Rattle.ember_reread.proofs.law.faces_have_one_text.Goals as goal

pub returns : goal.returns
returns c = texts_one
