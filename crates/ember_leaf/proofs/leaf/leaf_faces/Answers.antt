use Rattle.std.proofs.lemmas.Result.{IfOk-weaker}
use Rattle.ember_ref.proofs.ShiftLaw.{fits_within}
use Rattle.ember_leaf.proofs.leaf.leaf_faces.Goals as goal

pub returns-clause-written : goal.returns-clause-written
returns-clause-written c =
    IfOk-weaker c.leaf_faces_on.result _ _ (λ ks h scene f. h scene (fits_within f)) c.leaf_faces_on.ensures.written
