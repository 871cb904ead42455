use Rattle.ember_pairs.proofs.Whole.{gathered_whole}
use Rattle.ember_pairs.proofs.law.gathered_pairs_are_all.Goals as goal

pub returns : goal.returns
returns c items ps a g = gathered_whole c.args._s.now.tris items ps c.args._s.now.kept.valid a g
