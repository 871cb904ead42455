use Rattle.std.proofs.Common.{◌≡◌, ◌^◌, ◌∙◌, sym, ap, pos, ◌-ℤ◌, ◌*ℤ◌}
use mir.Syntax.{w32}
use Rattle.ember_algebra.proofs.Exact.{input, stored, ◌⊟◌, ◌&◌, done, exact}
use Rattle.ember_box.specs.Boxes.{Cell, low, right_half, in_steps}
use Rattle.ember_box.proofs.InSteps.{low_in_steps, right_in_steps, steps_are, steps_read}
use Rattle.ember_box.proofs.near_parts.middle_along.Goals as goal

pub returns-clause-value : goal.returns-clause-value
returns-clause-value g c = λ may.
    let n = g.W.Width.scale in let b = c.args.c.now in let k = c.args.k in
    let first : c.in_steps-low.result ≡ low (in_steps n b) k = steps_are n c.low.ensures.small c.in_steps-low.ensures.value
    ∙ ap (λ l. pos (2 ^ n) *ℤ l) c.low.ensures.value ∙ sym (low_in_steps n b k) in
    let middle : c.in_steps-at.result ≡ low (right_half (in_steps n b) k) k =
    steps_are n c.low-2.ensures.small c.in_steps-at.ensures.value
    ∙ ap (λ l. pos (2 ^ n) *ℤ l) (c.low-2.ensures.value ∙ ap (λ (h : Cell). low h k) c.halves-right.ensures.1)
    ∙ sym (low_in_steps n (right_half b k) k) ∙ ap (λ (h : Cell). low h k) (sym (right_in_steps n b k may)) in
    record {
      place = steps_read c.in_steps-at.ensures.small ∙ middle;
      length = exact (c.in_steps-at.ensures.small & c.in_steps-low.ensures.small & done)
          (stored w32 (stored w32 (input 0) ⊟ stored w32 (input 1))) tt ∙ (λ i. middle i -ℤ first i);
    }
