use Rattle.std.proofs.Common.{◌∙◌, [], ◌∷◌, ap, subst, arith}
use Rattle.steal_pool.specs.Owners.{EachOwner, Lent, rows_taken}
use Rattle.steal_pool.specs.Steps.{EachPass, all_taken}
use Rattle.steal_pool.proofs.DequeSteps.{weigh_append}
use Rattle.steal_pool.proofs.StateLists.{All_front}
use Rattle.steal_pool.proofs.pool.absorb_all.Goals as goal

pub loop-row-preserved : goal.loop-row-preserved
loop-row-preserved g c = record {
  owners = subst (λ n. EachOwner (Lent n) c.args.stealers.now.items c.absorb_each.new.owners.items) c.len.ensures c.absorb_each.ensures.owners;
  rows = All_front (λ r. EachPass c.args.stealers.now.items r.items) c.loop-row.rows.items c.pop.new.self.items
      (c.in-Some.row ∷ []) c.loop-row.invariant.rows c.in-Some.ensures.items;
  pushed = λ h. c.absorb_each.ensures.pushed h ∙ c.loop-row.invariant.pushed h;
  taken = λ h. omega (
    arith,
    c.absorb_each.ensures.taken h,
    c.loop-row.invariant.taken h,
    ap (rows_taken h) c.in-Some.ensures.items,
    weigh_append (λ r. all_taken h r.items) c.pop.new.self.items
        (c.in-Some.row ∷ []),
  );
}
