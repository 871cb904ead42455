use Rattle.ember_verdict.proofs.SlicedSolids.{solid_is_sliceable, solid_is_not_refused}
use Rattle.ember_verdict.proofs.law.documents_of_solids_can_be_sliced.Goals as goal

pub returns-clause-sliceable : goal.returns-clause-sliceable
returns-clause-sliceable c = solid_is_sliceable

pub returns-clause-accepted : goal.returns-clause-accepted
returns-clause-accepted c = solid_is_not_refused
