use Rattle.std.proofs.Common.{[], ◌∷◌, ap, arith, refl, ◌∙◌}
use Rattle.std.proofs.lemmas.List.Elements.{All-append, All-push}
use Rattle.ember_job.specs.Weights.{weigh}
use Rattle.steal_pool.specs.Owners.{Lent, all_pushed, owners_taken, rows_taken}
use Rattle.steal_pool.specs.Steps.{EachPass, all_taken, IsPart, by_path}
use Rattle.steal_pool.specs.Workers.{all_held, all_received}
use Rattle.steal_pool.proofs.DequeSteps.{weigh_append}
use Rattle.steal_pool.proofs.AccountSums.{pushed_snoc, owners_taken_snoc, journals_next}
use Rattle.steal_pool.proofs.StateLists.{taking_next, taking_end, may_leave_first}
use Rattle.steal_pool.proofs.pool.take_apart.Goals as goal

pub loop-state-preserved : goal.loop-state-preserved
loop-state-preserved g c =
    let first = may_leave_first g.K.VisitedJobs.is_visited g.K.BoxWeight.answers c.args.stealers.now.items
    c.loop-state.states.items c.first_state.new.states.items c.in-Some.state c.loop-state.invariant.states
    c.in-Some.ensures.first in record {
      taking = rw c.in_ok-push.ensures.items (taking_next (Lent c.args.workers) c.args.stealers.now.items
          c.loop-state.owners.items c.loop-state.states.items c.first_state.new.states.items c.in-Some.state
          c.loop-state.invariant.taking c.in-Some.ensures.first);
      states = first.1;
      rows = rw c.in_ok-push-2.ensures.items (All-push (λ r. EachPass c.args.stealers.now.items r.items)
          c.loop-state.rows.items c.in-Some.state.passes c.loop-state.invariant.rows first.0.each);
      len = omega (arith, c.loop-state.invariant.len, c.in_ok-push-2.ensures.len, c.in-Some.ensures.len);
      journals = journals_next (λ j. j.items) (λ s. s.output.journal.items) _ _ _ _ c.in-Some.state.output.journal
          c.in-Some.state c.in_ok-push-3.ensures.items c.in-Some.ensures.first refl ∙ c.loop-state.invariant.journals;
      parts = rw c.in_ok-append.ensures.items (All-append (IsPart g.K.VisitedJobs.is_visited g.K.BoxWeight.answers)
          c.loop-state.parts.items c.in-Some.state.output.parts.items c.loop-state.invariant.parts first.0.parts_all);
      held = λ h u. omega (
        arith,
        c.loop-state.invariant.held h u,
        ap (all_held g.K.BoxWeight.weight h u) c.in-Some.ensures.first,
        ap (weigh (g.K.BoxWeight.weight h u)) first.0.hand,
        ap (weigh (λ j. weigh h j.items)) c.in_ok-push-3.ensures.items,
        weigh_append (λ j. weigh h j.items) c.loop-state.journals.items (c.in-Some.state.output.journal ∷ []),
        ap (weigh (by_path u)) c.in_ok-append.ensures.items,
        weigh_append (by_path u) c.loop-state.parts.items c.in-Some.state.output.parts.items,
        ap (all_pushed (g.K.BoxWeight.weight h u)) c.in_ok-push.ensures.items,
        pushed_snoc (g.K.BoxWeight.weight h u) c.loop-state.owners.items c.in-Some.state.owner,
      );
      received = λ h u. omega (
        arith,
        c.loop-state.invariant.received h u,
        ap (all_received g.K.BoxWeight.weight h u) c.in-Some.ensures.first,
        ap (rows_taken (g.K.BoxWeight.weight h u)) c.in_ok-push-2.ensures.items,
        weigh_append (λ r. all_taken (g.K.BoxWeight.weight h u) r.items) c.loop-state.rows.items (c.in-Some.state.passes ∷ []),
        ap (owners_taken (g.K.BoxWeight.weight h u)) c.in_ok-push.ensures.items,
        owners_taken_snoc (g.K.BoxWeight.weight h u) c.loop-state.owners.items c.in-Some.state.owner,
      );
    }

pub returns-clause-owners : goal.returns-clause-owners
returns-clause-owners g c = taking_end (Lent c.args.workers) c.args.stealers.now.items c.loop-state.owners.items
    c.loop-state.states.items c.loop-state.invariant.taking c.in_default.ensures.first
