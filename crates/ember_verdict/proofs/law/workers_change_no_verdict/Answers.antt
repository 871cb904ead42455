use Rattle.ember_verdict.proofs.ToldVerdicts.{verdict_by_workers}
use Rattle.ember_verdict.proofs.law.workers_change_no_verdict.Goals as goal

pub returns : goal.returns
returns c = verdict_by_workers
