use Rattle.std.proofs.Common.{List, ℕ, ◌∙◌, subst}
use Rattle.mesh_grid.specs.declared.snap.steps.GridStep.{GridStep}
use Rattle.mesh_grid.specs.Snap.Decimals.{IsStepOf}
use Rattle.ember_arrays.proofs.asked.wanted_of.Goals as goal

pub returns-in-None-clause-none : goal.returns-in-None-clause-none
returns-in-None-clause-none c =
    rw c.in-Decimal.is (subst (λ (text : List ℕ). (s : GridStep) → IsStepOf text s → ⊥) (c.as_bytes.ensures.value ∙ c.as_str.ensures) c.in-None.ensures.none)
