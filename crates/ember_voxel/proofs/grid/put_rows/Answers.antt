use Rattle.std.proofs.Common.{[], ◌∷◌, ◌++◌, ap, ◌∙◌}
use Rattle.ember_voxel.proofs.Rows.{adds_none, adds_more}
use Rattle.ember_voxel.proofs.grid.put_rows.Goals as goal

pub loop-init : goal.loop-init
loop-init c = adds_none c.args.n c.args.text.now.items

pub loop-preserved : goal.loop-preserved
loop-preserved c =
    adds_more c.args.n c.loop.counter c.args.text.now.items c.loop.text.items c.extend_from_slice.new.self.items
    c.deref.result.now c.loop.invariant (c.deref.ensures.value ∙ c.in_ok-push.ensures.items
    ∙ ap (λ xs. xs ++ 10 ∷ []) (c.in_ok-row.ensures.items_if_clones_equal (λ y e. e)))
    c.in_ok-extend_from_slice.ensures.items
