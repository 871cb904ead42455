use Rattle.std.proofs.Common.{◌∙◌, not, ◌&&◌, ◌||◌, nat_lt, nat_le}
use Rattle.ember_box.proofs.Counting.{halving_axis_is}
use Rattle.ember_box.proofs.sums.least_axis.Goals as goal

pub returns : goal.returns
returns c n ts a =
    let s = c.args.sums.now in let x = c.log-x.ensures in let y = c.log-y.ensures in let z = c.log-z.ensures in
    c.chosen.ensures ∙ halving_axis_is n ts c.args.c.now s c.is_no_better.result c.is_no_better-2.result
    c.is_no_better-3.result a (c.is_no_better.ensures
    ∙ (λ i. not (nat_lt 0 (y i)) || (nat_lt 0 (x i) && nat_le s.x s.y)))
    (c.is_no_better-2.ensures ∙ (λ i. not (nat_lt 0 (z i)) || (nat_lt 0 (x i) && nat_le s.x s.z)))
    (c.is_no_better-3.ensures ∙ (λ i. not (nat_lt 0 (z i)) || (nat_lt 0 (y i) && nat_le s.y s.z)))
