-- The last of new workers is given the root.
use Rattle.std.proofs.Common.{◌≡◌, All, true, List, [], ◌∷◌, ◌++◌, sym, ap, ◌∙◌, subst, arith}
use Rattle.std.proofs.lemmas.List.Elements.{All-push}
use Rattle.std.specs.declared.alloc.Global.{Global}
use Rattle.crossbeam_deque.specs.Handles.{worker_view}
use Rattle.crossbeam_deque.specs.declared.handles.Stealer.{Stealer}
use Rattle.crossbeam_deque.specs.declared.handles.Worker.{Worker}
use Rattle.ember_job.specs.declared.job.Job.{Job}
use Rattle.ember_job.specs.Weights.{weigh}
use Rattle.steal_pool.specs.declared.protocol.HandleView.{HandleView}
use Rattle.steal_pool.specs.declared.protocol.JobProtocol.{JobProtocol}
use Rattle.steal_pool.specs.declared.state.WorkerState.{WorkerState}
use Rattle.steal_pool.specs.Steps.{Weight, IsPart, EachPass, all_taken, ended, at_job}
use Rattle.steal_pool.specs.Workers.{IsReady, all_held, all_received}
use Rattle.steal_pool.specs.States.{IsNew, HoldRoot}
use Rattle.steal_pool.specs.RunJournals.{LastHolds}
use Rattle.steal_pool.proofs.DequeSteps.{weigh_append}
use Rattle.steal_pool.proofs.AccountSums.{held_snoc, received_snoc, idle_held, idle_received}
use Rattle.steal_pool.proofs.StateLists.{All_front, All_last}

-- a worker was given a job, and nothing else of it changed
pub record IsGiven {K I : Type 0} (job : Job) (old new : WorkerState K I) : Type 0 where
  pub owner : new.owner ≡ old.owner
  pub passes : new.passes ≡ old.passes
  pub output : new.output ≡ old.output
  pub hand : new.hand.items ≡ old.hand.items ++ job ∷ []

module _ {P K I : Type 0} (visited : Job → Type 0) (answers : Job → I →
    Type 0) (w : Weight) (ts : List (Stealer Job Global HandleView P)) (root : Job) (qs ss vs : List (WorkerState K I))
    (s v : WorkerState K I) where
  -- after the root was given to the last state, all states are ready
  pub given_ready : All (IsNew visited answers w ts) qs → qs ≡ ss ++ s ∷ [] → vs ≡ ss ++ v ∷ [] → IsGiven root s v →
      visited root → All (IsReady visited answers ts) vs
  given_ready new is there given mine =
      let last = All_last (IsNew visited answers w ts) qs ss s new is in
      subst (All (IsReady visited answers ts)) (sym there)
      (All-push (IsReady visited answers ts) ss v
      (λ k d l. (All_front (IsNew visited answers w ts) qs ss (s ∷ []) new is k d l).ready) (record {
        each = subst (λ p. EachPass ts p.items) (sym given.passes) last.ready.each;
        sound = record {
          owns = subst (λ (o : Worker Job Global HandleView (JobProtocol K)). (worker_view o).owns ≡ true) (sym given.owner) last.ready.sound.owns;
          visited_all = subst (All visited) (sym given.hand) (All-push visited s.hand.items root last.ready.sound.visited_all mine);
          parts_all = subst (λ o. All (IsPart visited answers) o.parts.items) (sym given.output) last.ready.sound.parts_all;
        };
        no_journal = ap (λ o. o.journal.items) given.output ∙ last.ready.no_journal;
      }))

  -- they hold the root alone
  pub given_holds : All (IsNew visited answers w ts) qs → qs ≡ ss ++ s ∷ [] → vs ≡ ss ++ v ∷ [] → IsGiven root s v → HoldRoot w root vs
  given_holds new is there given =
      let last = All_last (IsNew visited answers w ts) qs ss s new is in record {
        held = λ h g. omega (
          arith,
          ap (all_held w h g) there,
          held_snoc w h g ss v,
          idle_held w h g ss (λ k d l. (All_front (IsNew visited answers w ts) qs ss (s ∷ []) new is k d l).idle),
          last.idle.held_none h g,
          ap (ended h g) given.output,
          ap (λ (o : Worker Job Global HandleView (JobProtocol K)). weigh (w h g) (worker_view o).pushed) given.owner,
          ap (weigh (w h g)) given.hand,
          weigh_append (w h g) s.hand.items (root ∷ []),
        );
        received = λ h g. omega (
          arith,
          ap (all_received w h g) there,
          received_snoc w h g ss v,
          idle_received w h g ss (λ k d l. (All_front (IsNew visited answers w ts) qs ss (s ∷ []) new is k d l).idle),
          last.idle.received_none h g,
          ap (λ (o : Worker Job Global HandleView (JobProtocol K)). weigh (w h g) (worker_view o).taken) given.owner,
          ap (λ p. all_taken (w h g) p.items) given.passes,
        );
      }

  -- the last state has it in hand
  pub given_last : vs ≡ ss ++ v ∷ [] → IsGiven root s v → LastHolds root.cell.path vs
  given_last there given = record {
    front = ss;
    last = v;
    is = there;
    holds = λ h. omega (arith, ap (weigh (at_job h)) given.hand, weigh_append (at_job h) s.hand.items (root ∷ []));
  }
