use Rattle.std.proofs.Common.{[], ◌∷◌, arith}
use Rattle.std.proofs.lemmas.List.Elements.{All-push}
use Rattle.steal_pool.specs.Owners.{Fresh, NewRow}
use Rattle.steal_pool.specs.States.{IsNew}
use Rattle.steal_pool.proofs.StateLists.{making_next, All_front}
use Rattle.steal_pool.proofs.pool.make_states.Goals as goal

pub loop-owner-preserved : goal.loop-owner-preserved
loop-owner-preserved g c = record {
  making =
      rw c.in_ok-push.ensures.items
      (making_next (Fresh c.args.workers) c.args.stealers.now.items c.loop-owner.states.items c.loop-owner.owners.items
      c.first_owner.new.owners.items c.in-Some.owner c.in_ok-state.state c.loop-owner.invariant.making
      c.in-Some.ensures.first c.in_ok-state.ensures.deque c.in_ok-state.ensures.owner);
  rows = All_front (λ r. NewRow c.args.stealers.now.items r.items) c.loop-owner.rows.items c.pop.new.self.items
      (c.in-Some-pop.row ∷ []) c.loop-owner.invariant.rows c.in-Some-pop.ensures.items;
  len = omega (arith, c.loop-owner.invariant.len, c.in-Some.ensures.len, c.in-Some-pop.ensures.len);
  count = omega (arith, c.loop-owner.invariant.count, c.in-Some.ensures.len, c.in_ok-push.ensures.len);
  states = rw c.in_ok-push.ensures.items (All-push
      (IsNew g.K.VisitedJobs.is_visited g.K.BoxWeight.answers g.K.BoxWeight.weight c.args.stealers.now.items)
      c.loop-owner.states.items c.in_ok-state.state c.loop-owner.invariant.states c.in_ok-state.ensures.state);
}
