-- States are made from their owners' ends, and taken apart again.
use lib.Seq.{take-append_seam, drop-append_seam}
use Rattle.std.proofs.lemmas.List.Elements.{All-take, All-drop}
use Rattle.std.proofs.Common.{◌≡◌, ℕ, zero, suc, All, true, List, [], ◌∷◌, ◌++◌, length, refl, sym, ap, ◌∙◌, subst, arith}
use Rattle.std.specs.declared.alloc.Global.{Global}
use Rattle.crossbeam_deque.specs.Handles.{worker_deque, worker_view, stealer_deque}
use Rattle.crossbeam_deque.specs.declared.handles.Stealer.{Stealer}
use Rattle.crossbeam_deque.specs.declared.handles.Worker.{Worker}
use Rattle.ember_job.specs.declared.job.Job.{Job}
use Rattle.steal_pool.specs.declared.protocol.HandleView.{HandleView}
use Rattle.steal_pool.specs.declared.protocol.JobProtocol.{JobProtocol}
use Rattle.steal_pool.specs.declared.state.WorkerState.{WorkerState}
use Rattle.steal_pool.specs.Owners.{EachOwner, Fresh, Lent, AllBack}
use Rattle.steal_pool.specs.Steps.{Weight}
use Rattle.steal_pool.specs.Workers.{EachFinished}
use Rattle.steal_pool.specs.States.{EachState, MakingStates, TakingStates, MayLeave}

-- one more deque with its owner's end
pub each_owner_snoc : {P : Type 0} (Q : HandleView →
    Type 0) (ts : List (Stealer Job Global HandleView P)) (os : List (Worker Job Global HandleView P))
    (t : Stealer Job Global HandleView P) (o : Worker Job Global HandleView P) → EachOwner Q ts os
    → stealer_deque t ≡ worker_deque o → Q (worker_view o) → EachOwner Q (ts ++ t ∷ []) (os ++ o ∷ [])
each_owner_snoc Q [] [] t o e same now = ((sym same, now), tt)
each_owner_snoc Q [] (x ∷ os) t o e same now = absurd e
each_owner_snoc Q (y ∷ ts) [] t o e same now = absurd e
each_owner_snoc Q (y ∷ ts) (x ∷ os) t o e same now = (e.0, each_owner_snoc Q ts os t o e.1 same now)

module _ {K I : Type 0} (Q : HandleView → Type 0) where
  -- the next owner's view is as required
  pub making_at : (ts : List (Stealer Job Global HandleView (JobProtocol K))) (ss : List (WorkerState K I))
      (qs os : List (Worker Job Global HandleView (JobProtocol K))) (o : Worker Job Global HandleView (JobProtocol K)) →
      MakingStates Q ts ss qs → qs ≡ o ∷ os → Q (worker_view o)
  making_at ts [] qs os o e is = here ts (subst (λ rs. EachOwner Q ts rs) is e) where
    here : (ts : List (Stealer Job Global HandleView (JobProtocol K))) → EachOwner Q ts (o ∷ os) → Q (worker_view o)
    here [] e = absurd e
    here (t ∷ ts) e = e.0.1
  making_at [] (s ∷ ss) qs os o e is = absurd e
  making_at (t ∷ ts) (s ∷ ss) qs os o e is = making_at ts ss qs os o e.1 is

  -- one more state was made
  pub making_next : (ts : List (Stealer Job Global HandleView (JobProtocol K))) (ss : List (WorkerState K I))
      (qs os : List (Worker Job Global HandleView (JobProtocol K))) (o : Worker Job Global HandleView (JobProtocol K))
      (s : WorkerState K I)
      → MakingStates Q ts ss qs → qs ≡ o ∷ os → worker_deque s.owner ≡ worker_deque o → Q (worker_view s.owner) → MakingStates Q ts (ss ++ s ∷ []) os
  making_next ts [] qs os o s e is same now = here ts (subst (λ rs. EachOwner Q ts rs) is e) where
    here : (ts : List (Stealer Job Global HandleView (JobProtocol K))) → EachOwner Q ts (o ∷ os) → MakingStates Q ts (s ∷ []) os
    here [] e = absurd e
    here (t ∷ ts) e = ((same ∙ e.0.0, now), e.1)
  making_next [] (x ∷ ss) qs os o s e is same now = absurd e
  making_next (t ∷ ts) (x ∷ ss) qs os o s e is same now = (e.0, making_next ts ss qs os o s e.1 is same now)

  -- after the last owner, there is a state for each deque
  pub making_end : (ts : List (Stealer Job Global HandleView (JobProtocol K))) (ss : List (WorkerState K I))
      (os : List (Worker Job Global HandleView (JobProtocol K))) → MakingStates Q ts ss os → os ≡ [] → EachState Q ts ss
  making_end ts [] os e is = here ts (subst (λ rs. EachOwner Q ts rs) is e) where
    here : (ts : List (Stealer Job Global HandleView (JobProtocol K))) → EachOwner Q ts [] → EachState {K = K} {I = I} Q ts []
    here [] e = tt
    here (t ∷ ts) e = absurd e
  making_end [] (x ∷ ss) os e is = absurd e
  making_end (t ∷ ts) (x ∷ ss) os e is = (e.0, making_end ts ss os e.1 is)

  -- one more state was taken apart
  pub taking_next : (ts : List (Stealer Job Global HandleView (JobProtocol K)))
      (os : List (Worker Job Global HandleView (JobProtocol K))) (qs ss : List (WorkerState K I)) (s : WorkerState K I) →
      TakingStates Q ts os qs → qs ≡ s ∷ ss → TakingStates Q ts (os ++ s.owner ∷ []) ss
  taking_next ts [] qs ss s e is = here ts (subst (λ rs. EachState Q ts rs) is e) where
    here : (ts : List (Stealer Job Global HandleView (JobProtocol K))) → EachState Q ts (s ∷ ss) → TakingStates Q ts (s.owner ∷ []) ss
    here [] e = absurd e
    here (t ∷ ts) e = (e.0, e.1)
  taking_next [] (o ∷ os) qs ss s e is = absurd e
  taking_next (t ∷ ts) (o ∷ os) qs ss s e is = (e.0, taking_next ts os qs ss s e.1 is)

  -- after the last state, there is an owner's end for each deque
  pub taking_end : (ts : List (Stealer Job Global HandleView (JobProtocol K)))
      (os : List (Worker Job Global HandleView (JobProtocol K))) (ss : List (WorkerState K I)) → TakingStates Q ts os ss →
      ss ≡ [] → EachOwner Q ts os
  taking_end ts [] ss e is = here ts (subst (λ rs. EachState Q ts rs) is e) where
    here : (ts : List (Stealer Job Global HandleView (JobProtocol K))) → EachState {K = K} {I = I} Q ts [] → EachOwner Q ts []
    here [] e = tt
    here (t ∷ ts) e = absurd e
  taking_end [] (o ∷ os) ss e is = absurd e
  taking_end (t ∷ ts) (o ∷ os) ss e is = (e.0, taking_end ts os ss e.1 is)

-- if no pass is out on any deque, all are back
pub all_back : {P : Type 0} (ts : List (Stealer Job Global HandleView P)) (os : List (Worker Job Global HandleView P)) → EachOwner (Lent 0) ts os → AllBack os
all_back [] [] e = tt
all_back [] (o ∷ os) e = absurd e
all_back (t ∷ ts) [] e = absurd e
all_back (t ∷ ts) (o ∷ os) e = (e.0.1, all_back ts os e.1)

-- the last deque has all its handles back
pub last_is_back : {P : Type 0} (qs os : List (Worker Job Global HandleView P)) (o : Worker Job Global HandleView P) →
    AllBack qs → qs ≡ os ++ o ∷ [] → Lent 0 (worker_view o) × AllBack os
last_is_back qs os o e is = split os (subst AllBack is e) where
  split : (os : List (Worker Job Global HandleView _)) → AllBack (os ++ o ∷ []) → Lent 0 (worker_view o) × AllBack os
  split [] e = (e.0, tt)
  split (x ∷ os) e = let r = split os e.1 in (r.0, (e.0, r.1))

-- what holds of two lists together holds of the first
pub All_front : {X : Type 0} (P : X → Type 0) (zs xs ys : List X) → All P zs → zs ≡ xs ++ ys → All P xs
All_front P zs xs ys a e = subst (All P) (take-append_seam xs ys) (All-take P (length xs) (xs ++ ys) (subst (All P) e a))

-- what holds of all members holds of the last
pub All_last : {X : Type 0} (P : X → Type 0) (zs xs : List X) (x : X) → All P zs → zs ≡ xs ++ x ∷ [] → P x
All_last P zs xs x a e = subst (All P) (drop-append_seam xs (x ∷ [])) (All-drop P (length xs) (xs ++ x ∷ []) (subst (All P) e a)) 0 x (omega arith)

All_tail : {X : Type 0} (P : X → Type 0) (zs xs : List X) (x : X) → All P zs → zs ≡ x ∷ xs → All P xs
All_tail P zs xs x a e k d l = subst (All P) e a (suc k) d (omega arith)

All_head : {X : Type 0} (P : X → Type 0) (zs xs : List X) (x : X) → All P zs → zs ≡ x ∷ xs → P x
All_head P zs xs x a e = subst (All P) e a 0 x (omega arith)

-- the last worker is given the root
each_state_last : {K I : Type 0} (Q : HandleView →
    Type 0) (ts : List (Stealer Job Global HandleView (JobProtocol K))) (ss : List (WorkerState K I))
    (s v : WorkerState K I) → v.owner ≡ s.owner → EachState Q ts (ss ++ s ∷ []) → EachState Q ts (ss ++ v ∷ [])
each_state_last Q [] [] s v same e = absurd e
each_state_last Q [] (x ∷ ss) s v same e = absurd e
each_state_last Q (t ∷ ts) [] s v same e = ((ap worker_deque same ∙ e.0.0, subst (λ o. Q (worker_view o)) (sym same) e.0.1), e.1)
each_state_last Q (t ∷ ts) (x ∷ ss) s v same e = (e.0, each_state_last Q ts ss s v same e.1)

-- giving the root to the last state changes no owner's end
pub root_given : {K I : Type 0} (Q : HandleView →
    Type 0) (ts : List (Stealer Job Global HandleView (JobProtocol K))) (qs ss vs : List (WorkerState K I))
    (s v : WorkerState K I) → EachState Q ts qs → qs ≡ ss ++ s ∷ [] → v.owner ≡ s.owner → vs ≡ ss ++ v ∷ [] →
    EachState Q ts vs
root_given Q ts qs ss vs s v e is same there = subst (λ xs. EachState Q ts xs) (sym there)
    (each_state_last Q ts ss s v same (subst (λ xs. EachState Q ts xs) is e))

fresh_lent : (m : ℕ) (v w : HandleView) → Fresh m v → w.owns ≡ true → w.lent ≡ v.lent → Lent m w
fresh_lent m v w e owns lent = (owns, lent ∙ ap (λ (u : HandleView). u.lent) e)

-- workers that finished still own their deques, with as many passes out
pub finished_states : {K I : Type 0} (visited : Job → Type 0) (answers : Job → I →
    Type 0) (w : Weight) (m : ℕ) (all ts : List (Stealer Job Global HandleView (JobProtocol K)))
    (ss vs : List (WorkerState K I)) → EachState (Fresh m) ts ss
    → EachFinished visited answers w all ss vs → EachState (Lent m) ts vs
finished_states visited answers w m all [] [] [] e r = tt
finished_states visited answers w m all [] [] (v ∷ vs) e r = absurd r
finished_states visited answers w m all [] (s ∷ ss) vs e r = absurd e
finished_states visited answers w m all (t ∷ ts) [] vs e r = absurd e
finished_states visited answers w m all (t ∷ ts) (s ∷ ss) [] e r = absurd r
finished_states visited answers w m all (t ∷ ts) (s ∷ ss) (v ∷ vs) e r = (
  (r.0.deque ∙ e.0.0, fresh_lent m (worker_view s.owner) (worker_view v.owner) e.0.1 r.0.sound.owns r.0.balance.lent),
  finished_states visited answers w m all ts ss vs e.1 r.1,
)

-- workers that finished may leave
pub finished_all : {K I : Type 0} (visited : Job → Type 0) (answers : Job → I →
    Type 0) (w : Weight) (all : List (Stealer Job Global HandleView (JobProtocol K))) (ss vs : List (WorkerState K I)) →
    EachFinished visited answers w all ss vs → All (MayLeave visited answers all) vs
finished_all visited answers w all [] [] r k d l = absurd (omega arith)
finished_all visited answers w all [] (v ∷ vs) r k d l = absurd r
finished_all visited answers w all (s ∷ ss) [] r k d l = absurd r
finished_all visited answers w all (s ∷ ss) (v ∷ vs) r zero d l = record { each = r.0.each; hand = r.0.hand; parts_all = r.0.sound.parts_all }
finished_all visited answers w all (s ∷ ss) (v ∷ vs) r (suc k) d l = finished_all visited answers w all ss vs r.1 k d (omega arith)

-- no worker is lost
pub finished_length : {P K I : Type 0} (visited : Job → Type 0) (answers : Job → I →
    Type 0) (w : Weight) (all : List (Stealer Job Global HandleView P)) (ss vs : List (WorkerState K I)) →
    EachFinished visited answers w all ss vs → length vs ≡ length ss
finished_length visited answers w all [] [] r = refl
finished_length visited answers w all [] (v ∷ vs) r = absurd r
finished_length visited answers w all (s ∷ ss) [] r = absurd r
finished_length visited answers w all (s ∷ ss) (v ∷ vs) r = ap suc (finished_length visited answers w all ss vs r.1)

-- the first of states that may be taken apart
pub may_leave_first : {P K I : Type 0} (visited : Job → Type 0) (answers : Job → I →
    Type 0) (ts : List (Stealer Job Global HandleView P)) (zs xs : List (WorkerState K I)) (x : WorkerState K I) →
    All (MayLeave visited answers ts) zs → zs ≡ x ∷ xs
    → MayLeave visited answers ts x × All (MayLeave visited answers ts) xs
may_leave_first visited answers ts zs xs x a e = (All_head (MayLeave visited answers ts) zs xs x a e, All_tail (MayLeave visited answers ts) zs xs x a e)
