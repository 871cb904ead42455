use Rattle.ember_verdict.proofs.ClearFaces.{same_along}
use Rattle.ember_verdict.proofs.law.counts_along_all_axes_agree.Goals as goal

pub returns : goal.returns
returns c = same_along
