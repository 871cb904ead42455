use Rattle.std.proofs.Common.{ap, arith, ◌∙◌}
use Rattle.steal_pool.specs.declared.protocol.HandleView.{HandleView}
use Rattle.steal_pool.proofs.LendingSteps.{lending_at, lending_next, lending_end, set_length}
use Rattle.steal_pool.proofs.owners.lend_each.Goals as goal

pub lend-pass-requires : goal.lend-pass-requires
lend-pass-requires g c = rw c.index_mut-owner.ensures.value
    (ap (λ (v : HandleView). v.owns) (lending_at c.args.lent c.loop-i.i c.args.stealers.now.items c.loop-i.owners.items
    c.loop-i.passes.items c.index_mut-owner.result.now c.loop-i.invariant.lending (omega arith)))

pub loop-i-preserved : goal.loop-i-preserved
loop-i-preserved g c = record {
  lending =
      lending_next c.args.lent c.loop-i.i c.args.stealers.now.items c.loop-i.owners.items c.loop-i.passes.items
      c.push.new.self.items c.index_mut-owner.result.now
      c.lend-pass.new.owner c.lend-pass.result c.loop-i.invariant.lending (omega arith)
      (rw c.index_mut-owner.ensures.value at c.lend-pass.ensures) c.in_ok-push.ensures.items;
  len = set_length c.loop-i.owners.items c.loop-i.i c.lend-pass.new.owner ∙ c.loop-i.invariant.len;
  same = set_length c.loop-i.owners.items c.loop-i.i c.lend-pass.new.owner ∙ c.loop-i.invariant.same;
}

pub returns-clause-owners : goal.returns-clause-owners
returns-clause-owners g c = (lending_end c.args.lent c.loop-i.i c.args.stealers.now.items c.loop-i.owners.items
    c.loop-i.passes.items c.loop-i.invariant.lending (omega arith)).0

pub returns-clause-passes : goal.returns-clause-passes
returns-clause-passes g c = (lending_end c.args.lent c.loop-i.i c.args.stealers.now.items c.loop-i.owners.items
    c.loop-i.passes.items c.loop-i.invariant.lending (omega arith)).1
