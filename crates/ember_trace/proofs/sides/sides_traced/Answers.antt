use Rattle.std.proofs.lemmas.Result.{IfOk-weaker}
use Rattle.ember_ref.proofs.ShiftLaw.{fits_within}
use Rattle.ember_trace.proofs.sides.sides_traced.Goals as goal

pub returns-clause-sides : goal.returns-clause-sides
returns-clause-sides c =
    IfOk-weaker c.sides_traced_on.result _ _ (λ s h inside scene f. h inside scene (fits_within f)) c.sides_traced_on.ensures.sides

pub returns-clause-region : goal.returns-clause-region
returns-clause-region c =
    IfOk-weaker c.sides_traced_on.result _ _ (λ s h region scene f. h region scene (fits_within f)) c.sides_traced_on.ensures.region

pub returns-clause-only : goal.returns-clause-only
returns-clause-only c =
    IfOk-weaker c.sides_traced_on.result _ _ (λ s h region scene f. h region scene (fits_within f)) c.sides_traced_on.ensures.only
