use Rattle.std.proofs.Common.{not, inl, inr, ⊎_elim, ap, sym, ◌∙◌}
use Rattle.ember_model.proofs.SignTests.{zero_out}
use Rattle.mesh_solid.proofs.Signs.{off_tested}
use Rattle.mesh_solid.proofs.outline.edges.is_off.Goals as goal

pub returns-then-not-is_on : goal.returns-then-not-is_on
returns-then-not-is_on c =
    let start = off_tested _ _ c.is_on.ensures in (λ t. inl (start.0 t), λ h. ap not c.if-not-is_on.true)

pub returns-else-not-is_on : goal.returns-else-not-is_on
returns-else-not-is_on c =
    let start = zero_out _ (sym c.is_on.ensures ∙ c.if-not-is_on.false) in
    let end = off_tested _ _ c.is_on-else-not-is_on.ensures in
    (λ t. inr (end.0 t), λ h. ⊎_elim (λ p. absurd (p start)) end.1 h)
