use Rattle.std.proofs.Common.{ap, arith}
use Rattle.steal_pool.specs.Owners.{all_pushed, owners_taken}
use Rattle.steal_pool.proofs.AccountSums.{pushed_snoc, owners_taken_snoc}
use Rattle.steal_pool.proofs.StateLists.{last_is_back}
use Rattle.steal_pool.proofs.pool.drain_all.Goals as goal

pub drain-requires-clause-owner : goal.drain-requires-clause-owner
drain-requires-clause-owner g c = (last_is_back c.loop-owner.owners.items c.pop.new.self.items c.in-Some.owner
    c.loop-owner.invariant.back c.in-Some.ensures.items).0

pub loop-owner-preserved : goal.loop-owner-preserved
loop-owner-preserved g c = record {
  back = (last_is_back c.loop-owner.owners.items c.pop.new.self.items c.in-Some.owner c.loop-owner.invariant.back c.in-Some.ensures.items).1;
  parts = c.in_ok-drain.ensures.parts;
  stays = λ h. omega (arith, c.loop-owner.invariant.stays h, c.in_ok-drain.ensures.stays h);
  sums = λ h u. omega (
    arith,
    c.loop-owner.invariant.sums h u,
    c.in_ok-drain.ensures.sums h u,
    ap (all_pushed (g.K.BoxWeight.weight h u)) c.in-Some.ensures.items,
    pushed_snoc (g.K.BoxWeight.weight h u) c.pop.new.self.items c.in-Some.owner,
    ap (owners_taken (g.K.BoxWeight.weight h u)) c.in-Some.ensures.items,
    owners_taken_snoc (g.K.BoxWeight.weight h u) c.pop.new.self.items c.in-Some.owner,
  );
}
