use Rattle.std.proofs.Common.{ap, arith, ◌∙◌}
use Rattle.ember_job.specs.Weights.{weigh}
use Rattle.steal_pool.specs.Steps.{by_path, at_entry, at_halves}
use Rattle.steal_pool.specs.States.{journals_of}
use Rattle.steal_pool.proofs.AccountSums.{each_sums}
use Rattle.steal_pool.proofs.StateLists.{finished_all}
use Rattle.steal_pool.proofs.JournalLists.{each_stays, journals_are, journals_weigh}
use Rattle.steal_pool.proofs.pool.run_states.Goals as goal

pub take_apart-requires-clause-states : goal.take_apart-requires-clause-states
take_apart-requires-clause-states g c = finished_all g.K.VisitedJobs.is_visited g.K.BoxWeight.answers
    g.K.BoxWeight.weight c.args.stealers.now.items c.args.states.items c.run_workers.new.workers.items
    c.in_ok-run_workers.ensures

pub returns-clause-journals : goal.returns-clause-journals
returns-clause-journals g c = record {
  ended = journals_of c.run_workers.new.workers.items;
  caller = c.drain_all.new.output.journal.items;
  is =
      c.of-2.ensures ∙
      journals_are (λ v. v.items) c.in_ok-outputs.outputs.journals.items c.reverse.new.self.items c.push.new.self.items
      c.drain_all.new.output.journal (journals_of c.run_workers.new.workers.items)
      c.reverse.ensures.items c.in_ok-push.ensures.items c.in_ok-outputs.ensures.sums.journals;
  stays = each_stays g.K.VisitedJobs.is_visited g.K.BoxWeight.answers g.K.BoxWeight.weight c.args.stealers.now.items
      c.args.states.items c.run_workers.new.workers.items c.requires.ready c.in_ok-run_workers.ensures;
  both = λ h. omega (
    arith,
    c.in_ok-drain_all.ensures.stays h,
    ap (weigh (at_entry h)) c.new-journal.ensures.items,
    ap (weigh (at_halves h)) c.new-journal.ensures.items,
  );
  last = omega (arith, c.len-left.ensures);
}

pub returns-clause-sums : goal.returns-clause-sums
returns-clause-sums g c = λ h u. omega (
  arith,
  each_sums g.K.VisitedJobs.is_visited g.K.BoxWeight.answers g.K.BoxWeight.weight c.args.stealers.now.items
      c.args.states.items c.run_workers.new.workers.items h u c.in_ok-run_workers.ensures,
  c.in_ok-outputs.ensures.sums.held h u,
  c.in_ok-outputs.ensures.sums.received h u,
  c.absorb_all.ensures.pushed (g.K.BoxWeight.weight h u),
  c.absorb_all.ensures.taken (g.K.BoxWeight.weight h u),
  c.in_ok-drain_all.ensures.sums h u,
  ap (weigh h) c.new-journal.ensures.items,
  ap (weigh (by_path u)) c.of.ensures,
  ap (weigh (weigh h)) c.of-2.ensures,
  journals_weigh (λ v. v.items) c.in_ok-outputs.outputs.journals.items c.reverse.new.self.items c.push.new.self.items
      c.drain_all.new.output.journal c.reverse.ensures.items c.in_ok-push.ensures.items (weigh h),
)
