use Rattle.ember_alone.proofs.Neighbours.{neighbours_agree}
use Rattle.ember_alone.proofs.law.neighbours_have_equal_values.Goals as goal

pub returns : goal.returns
returns c = neighbours_agree
