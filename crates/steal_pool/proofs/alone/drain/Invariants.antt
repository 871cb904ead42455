use Rattle.std.proofs.Common.{◌≡◌, ◌+◌, ℕ, All}
use Rattle.crossbeam_deque.specs.Handles.{worker_view}
use Rattle.ember_job.specs.declared.job.Entry.{Entry}
use Rattle.ember_job.specs.Weights.{weigh}
use Rattle.steal_pool.specs.Owners.{Lent}
use Rattle.steal_pool.specs.Steps.{IsPart, KeepsHalves, ended}
use Rattle.steal_pool.proofs.alone.drain.Given as goal

abbrev pub invariant-loop : goal.invariant-loop
invariant-loop g l = record {
  lent : Lent 0 (worker_view l.owner);
  parts : All (IsPart g.K.VisitedJobs.is_visited g.K.BoxWeight.answers) l.output.parts.items;
  stays : KeepsHalves l.initial.output l.output;
  pushed : (worker_view l.owner).pushed ≡ (worker_view l.initial.owner).pushed;
  sums : (h : Entry → ℕ) (u : ℕ → ℕ) → ended h u l.output
      + weigh (g.K.BoxWeight.weight h u) (worker_view l.initial.owner).taken ≡ ended h u l.initial.output
      + weigh (g.K.BoxWeight.weight h u) (worker_view l.owner).taken;
}
