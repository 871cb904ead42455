use Rattle.std.proofs.Common.{◌≡◌, ◌+◌, ℕ, All, length}
use Rattle.ember_job.specs.declared.job.Entry.{Entry}
use Rattle.steal_pool.specs.Steps.{IsPart, KeepsHalves, ended}
use Rattle.steal_pool.specs.Owners.{AllBack, all_pushed, owners_taken}
use Rattle.steal_pool.proofs.pool.drain_all.Given as goal

abbrev pub invariant-loop-owner : goal.invariant-loop-owner
invariant-loop-owner g l = record {
  back : AllBack l.owners.items;
  parts : All (IsPart g.K.VisitedJobs.is_visited g.K.BoxWeight.answers) l.output.parts.items;
  stays : KeepsHalves l.initial.output l.output;
  sums : (h : Entry → ℕ) (u : ℕ → ℕ)
      → ended h u l.output + owners_taken (g.K.BoxWeight.weight h u) l.initial.owners.items
      + all_pushed (g.K.BoxWeight.weight h u) l.owners.items ≡ ended h u l.initial.output
      + all_pushed (g.K.BoxWeight.weight h u) l.initial.owners.items
      + owners_taken (g.K.BoxWeight.weight h u) l.owners.items;
}

abbrev pub decreases-loop-owner : goal.decreases-loop-owner
decreases-loop-owner g l = length l.owners.items
