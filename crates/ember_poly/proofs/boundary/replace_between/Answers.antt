use Rattle.std.proofs.Common.{◌∙◌, ap, arith, take, drop, ◌++◌, suc, ◌+◌}
use Rattle.ember_poly.proofs.PassageSides.{put_first, put_more}
use Rattle.ember_poly.proofs.boundary.replace_between.Goals as goal

pub loop-init : goal.loop-init
loop-init g c = let a = c.args in put_first a.from a.item a.items.now.items (omega arith)

pub loop-preserved : goal.loop-preserved
loop-preserved g c =
    let a = c.args in let k = a.from + 1 in
    c.remove.ensures.items ∙ ap (λ xs. take k xs ++ drop (suc k) xs) c.loop.invariant
    ∙ put_more a.from c.loop.counter a.item a.items.now.items (omega arith) (omega arith)
