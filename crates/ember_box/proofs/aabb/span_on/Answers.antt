use Rattle.std.proofs.Common.{◌^◌, ◌∙◌, sym, ap, pos, ◌*ℤ◌}
use Rattle.ember_box.specs.declared.aabb.Interval.{Interval}
use Rattle.ember_box.specs.Aabbs.{interval_between}
use Rattle.ember_box.proofs.InSteps.{low_in_steps, high_in_steps, steps_are, steps_read}
use Rattle.ember_box.proofs.aabb.span_on.Goals as goal

pub returns-clause-value : goal.returns-clause-value
returns-clause-value g c =
    let n = g.W.Width.scale in let b = c.args.c.now in let k = c.args.k in let span = c.span_along-span.ensures in
    let low = steps_read c.in_steps.ensures.small ∙ steps_are n span.within.low c.in_steps.ensures.value
    ∙ ap (λ (s : Interval). pos (2 ^ n) *ℤ s.low) span.value ∙ sym (low_in_steps n b k) in
    let high = steps_read c.in_steps-2.ensures.small ∙ steps_are n span.within.high c.in_steps-2.ensures.value
    ∙ ap (λ (s : Interval). pos (2 ^ n) *ℤ s.high) span.value ∙ sym (high_in_steps n b k) in
    λ i. interval_between (low i) (high i)
