use Rattle.ember_query.proofs.Reports.{holds_alone}
use Rattle.ember_query.proofs.executor.results_alone.Goals as goal

pub returns-clause-journals : goal.returns-clause-journals
returns-clause-journals g c =
    holds_alone (g.W.Work.shape c.args.step.now.work) c.args.root c.in_ok-harvest.harvest.journals c.in_ok-harvest.ensures.journals.once
