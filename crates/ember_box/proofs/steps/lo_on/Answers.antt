use Rattle.std.proofs.Common.{◌^◌, ◌∙◌, sym, ap, [], ◌∷◌, pos, ◌*ℤ◌}
use Rattle.ember_model.specs.declared.point.Axis.TheVariants.{X, Y, Z}
use Rattle.ember_box.proofs.InSteps.{low_in_steps, steps_are, steps_read, read_small, three_small}
use Rattle.ember_box.proofs.steps.lo_on.Goals as goal

pub returns-clause-value : goal.returns-clause-value
returns-clause-value g c =
    let n = g.W.Width.scale in let b = c.args.c.now in
    let x = steps_read c.in_steps.ensures.small ∙ steps_are n c.low.ensures.small c.in_steps.ensures.value
    ∙ ap (λ l. pos (2 ^ n) *ℤ l) c.low.ensures.value ∙ sym (low_in_steps n b X) in
    let y = steps_read c.in_steps-2.ensures.small ∙ steps_are n c.low-2.ensures.small c.in_steps-2.ensures.value
    ∙ ap (λ l. pos (2 ^ n) *ℤ l) c.low-2.ensures.value ∙ sym (low_in_steps n b Y) in
    let z = steps_read c.in_steps-3.ensures.small ∙ steps_are n c.low-3.ensures.small c.in_steps-3.ensures.value
    ∙ ap (λ l. pos (2 ^ n) *ℤ l) c.low-3.ensures.value ∙ sym (low_in_steps n b Z) in
    λ i. x i ∷ y i ∷ z i ∷ []

pub returns-clause-within : goal.returns-clause-within
returns-clause-within g c =
    three_small (read_small c.in_steps.ensures.small c.in_steps.ensures.within)
    (read_small c.in_steps-2.ensures.small c.in_steps-2.ensures.within)
    (read_small c.in_steps-3.ensures.small c.in_steps-3.ensures.within)

pub returns-clause-small : goal.returns-clause-small
returns-clause-small g c =
    three_small (read_small c.in_steps.ensures.small c.in_steps.ensures.small)
    (read_small c.in_steps-2.ensures.small c.in_steps-2.ensures.small)
    (read_small c.in_steps-3.ensures.small c.in_steps-3.ensures.small)
