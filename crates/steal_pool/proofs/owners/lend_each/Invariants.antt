use Rattle.std.proofs.Common.{◌≡◌, length}
use Rattle.steal_pool.specs.Owners.{Lending}
use Rattle.steal_pool.proofs.owners.lend_each.Given as goal

abbrev pub invariant-loop-i : goal.invariant-loop-i
invariant-loop-i g l = record {
  lending : Lending l.lent l.i l.stealers.items l.owners.items l.passes.items;
  len : length l.owners.items ≡ l.i-end;
  same : length l.owners.items ≡ length l.initial.owners.items;
}
