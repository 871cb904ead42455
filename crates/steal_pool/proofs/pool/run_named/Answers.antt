use Rattle.std.proofs.Common.{ap, subst, arith}
use Rattle.ember_job.specs.declared.job.Job.{Job}
use Rattle.steal_pool.specs.RunJournals.{RunJournals}
use Rattle.steal_pool.proofs.JournalLists.{journals_gathered}
use Rattle.steal_pool.proofs.pool.run_named.Goals as goal

pub returns-clause-journals : goal.returns-clause-journals
returns-clause-journals g c =
    subst (λ p. RunJournals p c.args.workers c.in_ok-harvest.harvest.journals c.in_ok-harvest.harvest.left)
    (ap (λ (j : Job). j.cell.path) c.in_ok-heap_job.ensures)
    (subst (λ n. RunJournals c.in_ok-heap_job.heap_job.cell.path n c.in_ok-harvest.harvest.journals
    c.in_ok-harvest.harvest.left) (omega (
      arith,
      c.in_ok-states.ensures.len,
      c.in_ok-fresh.ensures.len,
      c.in_ok-rows.ensures.count,
      c.in_ok-deques.ensures.count,
    ))
    (journals_gathered c.in_ok-heap_job.heap_job.cell.path c.in_ok-states.states.items c.in_ok-harvest.harvest.journals
    c.in_ok-harvest.harvest.left c.in_ok-states.ensures.root c.in_ok-harvest.ensures.journals))

pub returns-clause-sums : goal.returns-clause-sums
returns-clause-sums g c = λ h u. omega (
  arith,
  c.in_ok-harvest.ensures.sums h u,
  c.in_ok-states.ensures.sums.held h u,
  c.in_ok-states.ensures.sums.received h u,
  ap (g.K.BoxWeight.weight h u) c.in_ok-heap_job.ensures,
)
