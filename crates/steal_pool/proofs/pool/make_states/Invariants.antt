use Rattle.std.proofs.Common.{◌≡◌, ◌+◌, All, length, vec_len}
use Rattle.steal_pool.specs.Owners.{Fresh, NewRow}
use Rattle.steal_pool.specs.States.{MakingStates, IsNew}
use Rattle.steal_pool.proofs.pool.make_states.Given as goal

abbrev pub invariant-loop-owner : goal.invariant-loop-owner
invariant-loop-owner g l = record {
  making : MakingStates (Fresh l.workers) l.stealers.items l.states.items l.owners.items;
  rows : All (λ r. NewRow l.stealers.items r.items) l.rows.items;
  len : vec_len l.rows ≡ vec_len l.owners;
  count : vec_len l.states + vec_len l.owners ≡ vec_len l.initial.owners;
  states : All (IsNew g.K.VisitedJobs.is_visited g.K.BoxWeight.answers g.K.BoxWeight.weight l.stealers.items) l.states.items;
}

abbrev pub decreases-loop-owner : goal.decreases-loop-owner
decreases-loop-owner g l = length l.owners.items
