use Rattle.ember_slice.proofs.OneAnswer.{one_text}
use Rattle.ember_slice.proofs.law.slices_have_one_text.Goals as goal

pub returns : goal.returns
returns c = one_text
