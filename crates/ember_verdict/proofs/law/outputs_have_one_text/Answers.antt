use Rattle.ember_verdict.proofs.OneTexts.{output_one}
use Rattle.ember_verdict.proofs.law.outputs_have_one_text.Goals as goal

pub returns : goal.returns
returns c = λ output scene one other a b. output_one output one other scene a b
