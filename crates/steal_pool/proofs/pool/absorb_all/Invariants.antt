use Rattle.std.proofs.Common.{◌≡◌, ◌+◌, ℕ, vec_len}
use Rattle.ember_job.specs.declared.job.Job.{Job}
use Rattle.steal_pool.specs.Owners.{EachOwner, EachRow, Lent, all_pushed, owners_taken, rows_taken}
use Rattle.steal_pool.proofs.pool.absorb_all.Given as goal

abbrev pub invariant-loop-row : goal.invariant-loop-row
invariant-loop-row g l = record {
  owners : EachOwner (Lent (vec_len l.rows)) l.stealers.items l.owners.items;
  rows : EachRow l.stealers.items l.rows.items;
  pushed : (h : Job → ℕ) → all_pushed h l.owners.items ≡ all_pushed h l.initial.owners.items;
  taken : (h : Job → ℕ) → owners_taken h l.owners.items + rows_taken h l.rows.items ≡ owners_taken h l.initial.owners.items + rows_taken h l.initial.rows.items;
}

abbrev pub decreases-loop-row : goal.decreases-loop-row
decreases-loop-row g l = vec_len l.rows
