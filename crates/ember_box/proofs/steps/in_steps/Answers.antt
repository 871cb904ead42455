use Rattle.std.proofs.Common.{◌^◌, ◌*◌, ◌∙◌, ℤ, pos, ◌*ℤ◌, sym, ap, subst, le_refl}
use mir.Syntax.{w32}
use Rattle.ember_algebra.specs.Size.{Small}
use Rattle.ember_algebra.proofs.Exact.{Code, input, stored, ◌⊠◌, ◌&◌, done, exact, no_overflow}
use Rattle.ember_algebra.proofs.Size.{small_mul, small_within}
use Rattle.ember_box.proofs.InSteps.{unit_small, wall_steps}
use Rattle.ember_box.proofs.steps.in_steps.Goals as goal

-- the number of steps times the coordinate
abbrev times : Code
times = stored w32 (input 0) ⊠ stored w32 (input 1)

pub overflow_mul-result : goal.overflow_mul-result
overflow_mul-result g c =
    let w = g.met.W.Width in
    no_overflow (unit_small (c.UNIT.ensures ∙ w.unit_is) w.few_steps & c.requires & done) w32 times tt

pub returns-clause-value : goal.returns-clause-value
returns-clause-value g c =
    let w = g.met.W.Width in let unit = c.UNIT.ensures ∙ w.unit_is in
    exact (unit_small unit w.few_steps & c.requires & done) (stored w32 times) tt ∙ ap (λ u. u *ℤ c.args.x) unit

pub returns-clause-within : goal.returns-clause-within
returns-clause-within g c =
    subst (λ (z : ℤ). Small (2 ^ g.W.Width.scale * 2048) z) (sym (returns-clause-value g c))
    (small_mul {a = pos (2 ^ g.W.Width.scale)} (record { small = le_refl (2 ^ g.W.Width.scale) }) c.requires)

pub returns-clause-small : goal.returns-clause-small
returns-clause-small g c = small_within (wall_steps g.met.W.Width.few_steps) (returns-clause-within g c)
