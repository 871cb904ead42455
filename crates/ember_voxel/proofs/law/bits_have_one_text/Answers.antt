use Rattle.ember_voxel.proofs.OneText.{one_text}
use Rattle.ember_voxel.proofs.law.bits_have_one_text.Goals as goal

pub returns : goal.returns
returns c = one_text
