use Rattle.steal_pool.proofs.LeafOrder.{fits_root}
use Rattle.steal_pool.proofs.Merging.{parts_merge_to_leaves}
use Rattle.steal_pool.proofs.law.merged_items_answer_the_leaves.Goals as goal

pub returns : goal.returns
returns g c = λ root parts items v at are m.
    let w = c.args._work.now in
    parts_merge_to_leaves (g.W.Work.shape w) (g.W.Work.item w) (g.W.Work.valid w)
    (λ j l r v is. (g.W.Work.halves_valid w j l r v is, g.W.Work.halves_split w j l r v is)) root v
    (fits_root root at) parts items are m
