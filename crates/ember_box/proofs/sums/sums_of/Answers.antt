use Rattle.std.proofs.Common.{◌∙◌, ap, ◌+◌}
use Rattle.ember_box.specs.Sums.{number, near_half_count}
use Rattle.ember_box.proofs.sums.sums_of.Goals as goal

pub returns-clause-sums : goal.returns-clause-sums
unfolding near_half_count
returns-clause-sums c n box t a =
    record {
      near = c.number.ensures.value ∙ ap number a.whole;
      x = λ may. c.number_of.ensures.value ∙ (λ i. number ((a.x may).left i) + number ((a.x may).right i));
      y = λ may. c.number_of-2.ensures.value ∙ (λ i. number ((a.y may).left i) + number ((a.y may).right i));
      z = λ may. c.number_of-3.ensures.value ∙ (λ i. number ((a.z may).left i) + number ((a.z may).right i));
    }
