use Rattle.std.proofs.Common.{ℤ, pos, sym, ap, subst, ◌∙◌, arith}
use Rattle.std.proofs.lemmas.Int.{to_z_pos}
use mir.Syntax.{w32}
use Rattle.ember_algebra.specs.Size.{Small}
use Rattle.ember_box.proofs.cell.side_of.Goals as goal

pub returns-clause-value : goal.returns-clause-value
returns-clause-value c =
    to_z_pos w32 c.power_of_two.result (omega (arith, c.power_of_two.ensures.bound)) ∙ ap pos c.power_of_two.ensures.value

pub returns-clause-small : goal.returns-clause-small
returns-clause-small c =
    subst (λ (z : ℤ). Small 4096 z) (sym (to_z_pos w32 c.power_of_two.result (omega (arith, c.power_of_two.ensures.bound))))
    (record { small = c.power_of_two.ensures.bound })
