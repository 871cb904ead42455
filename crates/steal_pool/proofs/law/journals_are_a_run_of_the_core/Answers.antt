use Rattle.std.proofs.Common.{ap}
use Rattle.ember_box.specs.Boxes.{Cell}
use Rattle.steal_pool.proofs.LeafOrder.{fits_root}
use Rattle.steal_pool.proofs.CoreOwned.{core_run}
use Rattle.steal_pool.proofs.law.journals_are_a_run_of_the_core.Goals as goal

pub returns : goal.returns
returns g c = λ root workers room journals v at rules many.
    let w = c.args._work.now in
    core_run (g.W.Work.shape w) (g.W.Work.valid w) root workers journals
    (λ j l r v is. (g.W.Work.halves_valid w j l r v is, g.W.Work.halves_split w j l r v is)) v (fits_root root at)
    rules many room (ap (λ (x : Cell). x.path) at)
