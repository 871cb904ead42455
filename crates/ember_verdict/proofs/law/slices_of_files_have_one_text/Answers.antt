use Rattle.ember_verdict.proofs.OneTexts.{slice_one}
use Rattle.ember_verdict.proofs.law.slices_of_files_have_one_text.Goals as goal

pub returns : goal.returns
returns c = slice_one
