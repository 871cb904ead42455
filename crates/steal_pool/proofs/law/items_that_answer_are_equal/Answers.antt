use Rattle.steal_pool.proofs.Merging.{equal_answers}
use Rattle.steal_pool.proofs.law.items_that_answer_are_equal.Goals as goal

pub returns : goal.returns
returns g c = λ jobs items others a b. equal_answers (g.W.Work.item c.args._work.now) (g.met.W.OneItem.one_item c.args._work.now) jobs items others a b
