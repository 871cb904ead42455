use Rattle.std.proofs.Common.{◌≡◌, All, length, vec_len}
use Rattle.steal_pool.specs.Owners.{EachOwner, Fresh, NewRow}
use Rattle.steal_pool.proofs.pool.make_rows.Given as goal

abbrev pub invariant-loop-i : goal.invariant-loop-i
invariant-loop-i g l = record {
  owners : EachOwner (Fresh l.i) l.stealers.items l.owners.items;
  same : length l.owners.items ≡ length l.initial.owners.items;
  len : vec_len l.rows ≡ l.i;
  rows : All (λ r. NewRow l.stealers.items r.items) l.rows.items;
}
