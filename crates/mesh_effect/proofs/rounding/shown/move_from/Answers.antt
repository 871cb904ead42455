use Rattle.std.proofs.Common.{ℕ, ap, ◌∙◌}
use Rattle.mesh_effect.specs.Rounding.Shown.{rounded_from}
use Rattle.mesh_effect.proofs.rounding.shown.move_from.Goals as goal

pub returns : goal.returns
returns c = c.rounded_from.ensures ∙ ap (λ (root : ℕ). rounded_from root c.args.tick.now) c.root_above.ensures.root
