use Rattle.std.proofs.Common.{◌∙◌, not, ◌*◌, ◌||◌, nat_lt, nat_le}
use Rattle.ember_box.proofs.Counting.{is_leaf_is}
use Rattle.ember_box.proofs.sums.is_leaf_by.Goals as goal

pub returns : goal.returns
returns c n ts a =
    let s = c.args.sums.now in
    c.ends.ensures ∙ is_leaf_is n ts c.args.c.now s c.is_few.result c.is_unprofitable.result c.is_unprofitable-2.result
    c.is_unprofitable-3.result a c.is_few.ensures
    (c.is_unprofitable.ensures ∙ (λ i. not (nat_lt 0 (c.log.ensures i)) || nat_le (7 * s.near) (4 * s.x)))
    (c.is_unprofitable-2.ensures ∙ (λ i. not (nat_lt 0 (c.log-2.ensures i)) || nat_le (7 * s.near) (4 * s.y)))
    (c.is_unprofitable-3.ensures ∙ (λ i. not (nat_lt 0 (c.log-3.ensures i)) || nat_le (7 * s.near) (4 * s.z)))
