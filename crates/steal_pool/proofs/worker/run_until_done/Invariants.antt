use Rattle.std.proofs.Common.{◌≡◌, []}
use Rattle.crossbeam_deque.specs.Handles.{worker_deque}
use Rattle.steal_pool.specs.Steps.{EachPass}
use Rattle.steal_pool.specs.Workers.{IsSound, Balances, account}
use Rattle.steal_pool.proofs.worker.run_until_done.Given as goal

abbrev pub invariant-loop : goal.invariant-loop
invariant-loop g l = record {
  deque : worker_deque l.worker.owner ≡ worker_deque l.initial.worker.owner;
  each : EachPass l.stealers.items l.worker.passes.items;
  sound : IsSound g.K.VisitedJobs.is_visited g.K.BoxWeight.answers l.worker;
  balance : Balances g.K.BoxWeight.weight [] (account l.initial.worker) (account l.worker);
}
