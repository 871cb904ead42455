use Rattle.std.proofs.Common.{sym, ◌∙◌}
use Rattle.std.proofs.lemmas.Bool.{false≢true}
use Rattle.ember_model.proofs.SignTests.{zero_out, nonzero_out}
use Rattle.mesh_solid.proofs.Signs.{positive_tested}
use Rattle.mesh_solid.proofs.outline.round.is_corner.Goals as goal

pub returns-then-not-is_on : goal.returns-then-not-is_on
returns-then-not-is_on c =
    (λ e. absurd (false≢true e), λ h. absurd (nonzero_out _ (sym c.is_on.ensures ∙ c.if-not-is_on.true) h.flat))

pub returns-then-not-is_on-2 : goal.returns-then-not-is_on-2
returns-then-not-is_on-2 c =
    (λ e. absurd (false≢true e), λ h. absurd (nonzero_out _ (sym c.is_on-2.ensures ∙ c.if-not-is_on-2.true) h.before))

pub returns-then-not-is_on-3 : goal.returns-then-not-is_on-3
returns-then-not-is_on-3 c =
    (λ e. absurd (false≢true e), λ h. absurd (nonzero_out _ (sym c.is_on-3.ensures ∙ c.if-not-is_on-3.true) h.after))

pub returns : goal.returns
returns c =
    let turned = positive_tested _ _ c.turns.ensures in (
      λ t. record {
        flat = zero_out _ (sym c.is_on.ensures ∙ c.if-not-is_on.false);
        weight = c.args.edge.now.start.valid.weight;
        before = zero_out _ (sym c.is_on-2.ensures ∙ c.if-not-is_on-2.false);
        after = zero_out _ (sym c.is_on-3.ensures ∙ c.if-not-is_on-3.false);
        turns = turned.0 t;
      },
      λ h. turned.1 h.turns,
    )
