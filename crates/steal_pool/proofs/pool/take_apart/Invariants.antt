use Rattle.std.proofs.Common.{map, ◌++◌, ◌≡◌, ◌+◌, ℕ, All, length, vec_len}
use Rattle.ember_job.specs.declared.job.Entry.{Entry}
use Rattle.ember_job.specs.Weights.{weigh}
use Rattle.steal_pool.specs.Owners.{Lent, EachRow, all_pushed, owners_taken, rows_taken}
use Rattle.steal_pool.specs.Steps.{IsPart, by_path}
use Rattle.steal_pool.specs.States.{TakingStates, MayLeave, journals_of}
use Rattle.steal_pool.specs.Workers.{all_held, all_received}
use Rattle.steal_pool.proofs.pool.take_apart.Given as goal

abbrev pub invariant-loop-state : goal.invariant-loop-state
invariant-loop-state g l = record {
  taking : TakingStates (Lent l.workers) l.stealers.items l.owners.items l.states.items;
  states : All (MayLeave g.K.VisitedJobs.is_visited g.K.BoxWeight.answers l.stealers.items) l.states.items;
  rows : EachRow l.stealers.items l.rows.items;
  len : vec_len l.rows + vec_len l.states ≡ vec_len l.initial.states;
  journals : map (λ j. j.items) l.journals.items ++ journals_of l.states.items ≡ journals_of l.initial.states.items;
  parts : All (IsPart g.K.VisitedJobs.is_visited g.K.BoxWeight.answers) l.parts.items;
  held : (h : Entry → ℕ) (u : ℕ → ℕ) → weigh (λ j. weigh h j.items) l.journals.items + weigh (by_path u) l.parts.items
      + all_pushed (g.K.BoxWeight.weight h u) l.owners.items
      + all_held g.K.BoxWeight.weight h u l.states.items ≡ all_held g.K.BoxWeight.weight h u l.initial.states.items;
  received : (h : Entry → ℕ) (u : ℕ → ℕ) → owners_taken (g.K.BoxWeight.weight h u) l.owners.items
      + rows_taken (g.K.BoxWeight.weight h u) l.rows.items
      + all_received g.K.BoxWeight.weight h u l.states.items ≡ all_received g.K.BoxWeight.weight h u
      l.initial.states.items;
}

abbrev pub decreases-loop-state : goal.decreases-loop-state
decreases-loop-state g l = length l.states.items
