use Rattle.ember_meaning.proofs.Nearby.{meanings_agree}
use Rattle.ember_meaning.proofs.SameWritten.{same_written}
use Rattle.ember_meaning.proofs.regions.law.solids_are_one_where_expressions_agree.Goals as goal

pub returns-clause-regions : goal.returns-clause-regions
returns-clause-regions c = λ scene f g agree ks. same_written scene f g agree ks

pub returns-clause-faces : goal.returns-clause-faces
returns-clause-faces c = λ scene f ws lines means g also. meanings_agree scene f g ws lines means also
