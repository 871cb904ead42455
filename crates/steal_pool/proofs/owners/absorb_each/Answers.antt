use Rattle.std.proofs.Common.{ap, arith, ◌∙◌, subst, ◌+◌}
use Rattle.steal_pool.specs.Steps.{all_taken}
use Rattle.steal_pool.specs.Owners.{Absorbing, all_pushed, owners_taken}
use Rattle.steal_pool.proofs.LendingSteps.{absorbing_now, absorbing_next, absorbing_some, absorbing_end, absorbed_pushed, absorbed_taken, set_length}
use Rattle.steal_pool.proofs.owners.absorb_each.Goals as goal

pub unreachable-requires : goal.unreachable-requires
unreachable-requires g c = absurd (absorbing_some c.args.lent c.loop-i.i c.args.stealers.now.items c.loop-i.owners.items
    (subst (λ ps. Absorbing c.args.lent c.loop-i.i c.args.stealers.now.items c.loop-i.owners.items ps)
    c.in_default.ensures c.loop-i.invariant.absorbing) (omega arith))

pub absorb-requires-clause-owns : goal.absorb-requires-clause-owns
absorb-requires-clause-owns g c =
    rw c.index_mut-owner.ensures.value
    (absorbing_now c.args.lent c.loop-i.i c.args.stealers.now.items c.loop-i.owners.items c.in-Some.pass
    c.loop-i.passes.items c.first_pass.new.passes.items c.index_mut-owner.result.now c.loop-i.invariant.absorbing
    c.in-Some.ensures (omega arith)).2.0

pub absorb-requires-clause-pass : goal.absorb-requires-clause-pass
absorb-requires-clause-pass g c =
    rw c.index_mut-owner.ensures.value
    (absorbing_now c.args.lent c.loop-i.i c.args.stealers.now.items c.loop-i.owners.items c.in-Some.pass
    c.loop-i.passes.items c.first_pass.new.passes.items c.index_mut-owner.result.now c.loop-i.invariant.absorbing
    c.in-Some.ensures (omega arith)).0

pub loop-i-preserved : goal.loop-i-preserved
loop-i-preserved g c =
    let view = rw c.index_mut-owner.ensures.value at c.absorb.ensures.view in record {
      absorbing =
          absorbing_next c.args.lent c.loop-i.i c.args.stealers.now.items c.loop-i.owners.items c.in-Some.pass
          c.loop-i.passes.items c.first_pass.new.passes.items
          c.index_mut-owner.result.now c.absorb.new.owner c.loop-i.invariant.absorbing c.in-Some.ensures (omega arith)
          (rw c.index_mut-owner.ensures.value at c.absorb.ensures.deque) view;
      len = set_length c.loop-i.owners.items c.loop-i.i c.absorb.new.owner ∙ c.loop-i.invariant.len;
      pushed = λ h. absorbed_pushed h c.loop-i.owners.items c.loop-i.i (all_pushed h c.args.owners.now.items)
          c.in-Some.pass c.index_mut-owner.result.now c.absorb.new.owner (omega arith) view (c.loop-i.invariant.pushed h);
      taken = λ h.
          absorbed_taken h c.loop-i.owners.items c.loop-i.i
          (owners_taken h c.args.owners.now.items + all_taken h c.args.passes.items) c.in-Some.pass
          c.loop-i.passes.items c.first_pass.new.passes.items
          c.index_mut-owner.result.now c.absorb.new.owner (omega arith) view c.in-Some.ensures (c.loop-i.invariant.taken h);
    }

pub returns-clause-owners : goal.returns-clause-owners
returns-clause-owners g c = (absorbing_end c.args.lent c.loop-i.i c.args.stealers.now.items c.loop-i.owners.items
    c.loop-i.passes.items c.loop-i.invariant.absorbing (omega arith)).0

pub returns-clause-taken : goal.returns-clause-taken
returns-clause-taken g c = λ h. omega (
  arith,
  c.loop-i.invariant.taken h,
  ap (all_taken h) (absorbing_end c.args.lent c.loop-i.i c.args.stealers.now.items c.loop-i.owners.items
      c.loop-i.passes.items c.loop-i.invariant.absorbing (omega arith)).1,
)
