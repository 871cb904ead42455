-- Sums of workers' accounts.
use lib.Seq.{take-append_seam}
use Rattle.std.proofs.Common.{map, take, subst, sym, ◌≡◌, ℕ, suc, ◌+◌, ◌<◌, All, true, List, [], ◌∷◌, ◌++◌, length}
use Rattle.std.proofs.Common.{slice_index_or, ◌∙◌, refl, ap, arith, Some, None}
use Rattle.ember_job.specs.declared.job.Job.{Job}
use Rattle.ember_job.specs.declared.job.Entry.{Entry}
use Rattle.std.specs.declared.alloc.Global.{Global}
use Rattle.crossbeam_deque.specs.declared.handles.Stealer.{Stealer}
use Rattle.crossbeam_deque.specs.declared.handles.Worker.{Worker}
use Rattle.crossbeam_deque.specs.Handles.{worker_view}
use Rattle.ember_job.specs.Weights.{weigh}
use Rattle.steal_pool.specs.declared.protocol.HandleView.{HandleView}
use Rattle.steal_pool.specs.declared.state.WorkerState.{WorkerState}
use Rattle.steal_pool.specs.Protocol.{with_taken}
use Rattle.steal_pool.specs.Steps.{Weight, at_entry, at_left}
use Rattle.steal_pool.specs.Owners.{all_pushed, owners_taken}
use Rattle.steal_pool.specs.Workers.{Account, account, held, received, Balances, Releases, IsIdle, FinishesIfDone, EachFinished, all_held, all_received}
use Rattle.steal_pool.proofs.DequeSteps.{weigh_append}

-- what a worker does balances, one thing after the other
pub balances_then : {I : Type 0} (w : Weight) (a b c : Account I) → Balances w [] a b → Balances w [] b c → Balances w [] a c
balances_then w a b c x y = record {
  lent = y.lent ∙ x.lent;
  sums =
      λ h g. omega (arith, x.sums h g, y.sums h g);
  stays = λ h. omega (arith, x.stays h, y.stays h);
}

-- a job that was released is run
pub released_balances : {I : Type 0} (w : Weight) (j : Job) (a b c : Account I) → Releases w (Some j) a b → Balances w (j ∷ []) b c → Balances w [] a c
released_balances w j a b c x y = record {
  lent = y.lent ∙ x.lent;
  sums = λ h g. omega (arith, x.sums h g, y.sums h g);
  stays = λ h. omega (arith, x.stays h, y.stays h, ap (λ o. weigh (at_entry h) o.journal.items) x.output, ap (λ o. weigh (at_left h) o.journal.items) x.output);
}

-- a look for a job that finds none
pub none_balances : {I : Type 0} (w : Weight) (a b : Account I) → Releases w None a b → Balances w [] a b
none_balances w a b x = record {
  lent = x.lent;
  sums = λ h g. omega (arith, x.sums h g);
  stays = λ h. omega (arith, x.stays h, ap (λ o. weigh (at_entry h) o.journal.items) x.output, ap (λ o. weigh (at_left h) o.journal.items) x.output);
}

-- workers that are all done have all finished
each_finished : {P K I : Type 0} (visited : Job → Type 0) (answers : Job → I →
    Type 0) (w : Weight) (ts : List (Stealer Job Global HandleView P)) (ss vs : List (WorkerState K I)) →
    length vs ≡ length ss
    → ((i : ℕ) (d : WorkerState K I) → i < length ss →
    FinishesIfDone visited answers w ts (slice_index_or ss i d) (slice_index_or vs i d)) →
    All (λ s. s.done ≡ true) vs → EachFinished visited answers w ts ss vs
each_finished visited answers w ts [] [] len each done = tt
each_finished visited answers w ts [] (v ∷ vs) len each done = absurd (omega (arith, len))
each_finished visited answers w ts (s ∷ ss) [] len each done = absurd (omega (arith, len))
each_finished visited answers w ts (s ∷ ss) (v ∷ vs) len each done = (
  (each 0 s (omega arith)).finished (done 0 v (omega arith)),
  each_finished visited answers w ts ss vs (omega (arith, len)) (λ i d l. each (suc i) d (omega (arith, l))) (λ k d l. done (suc k) d (omega (arith, l))),
)

-- the same, if the workers were lent as a slice and are in their vector again
pub each_finished_back : {P K I : Type 0} (visited : Job → Type 0) (answers : Job → I →
    Type 0) (w : Weight) (ts : List (Stealer Job Global HandleView P)) (n : ℕ) (ss vs rest : List (WorkerState K I)) →
    n ≡ length ss → length vs ≡ length ss
    → ((i : ℕ) (d : WorkerState K I) → i < length ss →
    FinishesIfDone visited answers w ts (slice_index_or ss i d) (slice_index_or vs i d)) →
    All (λ s. s.done ≡ true) (take n (vs ++ rest)) → EachFinished visited answers w ts ss (take n (vs ++ rest))
each_finished_back visited answers w ts n ss vs rest count len each done =
    let back : take n (vs ++ rest) ≡ vs = ap (λ k. take k (vs ++ rest)) (count ∙ sym len) ∙ take-append_seam vs rest in
    subst (EachFinished visited answers w ts ss) (sym back) (each_finished visited answers w ts ss vs len each (subst (All (λ s. s.done ≡ true)) back done))

-- the accounts of all workers
pub each_sums : {P K I : Type 0} (visited : Job → Type 0) (answers : Job → I →
    Type 0) (w : Weight) (ts : List (Stealer Job Global HandleView P)) (ss vs : List (WorkerState K I)) (h : Entry →
    ℕ) (g : ℕ → ℕ) → EachFinished visited answers w ts ss vs
    → all_held w h g vs + all_received w h g ss ≡ all_held w h g ss + all_received w h g vs
each_sums visited answers w ts [] [] h g e = refl
each_sums visited answers w ts [] (v ∷ vs) h g e = absurd e
each_sums visited answers w ts (s ∷ ss) [] h g e = absurd e
each_sums visited answers w ts (s ∷ ss) (v ∷ vs) h g e = omega (arith, e.0.balance.sums h g, each_sums visited answers w ts ss vs h g e.1)

-- a job was drained and run
pub drained_one : (h : Job → ℕ) (v w : HandleView) (x : Job) → w ≡ with_taken v (x ∷ []) →
    (weigh h w.taken ≡ weigh h v.taken + h x) × (weigh h w.pushed ≡ weigh h v.pushed)
drained_one h v w x e = (
  omega (arith, ap (λ (u : HandleView). weigh h u.taken) e, weigh_append h v.taken (x ∷ [])),
  ap (λ (u : HandleView). weigh h u.pushed) e,
)

-- what one more deque was pushed
pub pushed_snoc : {P : Type 0} (h : Job → ℕ) (os : List (Worker Job Global HandleView P))
    (o : Worker Job Global HandleView P) → all_pushed h (os ++ o ∷ []) ≡ all_pushed h os + weigh h (worker_view o).pushed
pushed_snoc h [] o = omega arith
pushed_snoc h (x ∷ os) o = omega (arith, pushed_snoc h os o)

-- what one more deque gave
pub owners_taken_snoc : {P : Type 0} (h : Job → ℕ) (os : List (Worker Job Global HandleView P))
    (o : Worker Job Global HandleView P) → owners_taken h (os ++ o ∷ []) ≡ owners_taken h os
    + weigh h (worker_view o).taken
owners_taken_snoc h [] o = omega arith
owners_taken_snoc h (x ∷ os) o = omega (arith, owners_taken_snoc h os o)

-- one more state adds what it holds
pub held_snoc : {K I : Type 0} (w : Weight) (h : Entry → ℕ) (g : ℕ →
    ℕ) (ss : List (WorkerState K I)) (v : WorkerState K I) →
    all_held w h g (ss ++ v ∷ []) ≡ all_held w h g ss + held w h g (account v)
held_snoc w h g [] v = omega arith
held_snoc w h g (s ∷ ss) v = omega (arith, held_snoc w h g ss v)

-- one more state adds what it has received
pub received_snoc : {K I : Type 0} (w : Weight) (h : Entry → ℕ) (g : ℕ →
    ℕ) (ss : List (WorkerState K I)) (v : WorkerState K I) →
    all_received w h g (ss ++ v ∷ []) ≡ all_received w h g ss + received w h g (account v)
received_snoc w h g [] v = omega arith
received_snoc w h g (s ∷ ss) v = omega (arith, received_snoc w h g ss v)

-- idle states hold nothing
pub idle_held : {K I : Type 0} (w : Weight) (h : Entry → ℕ) (g : ℕ → ℕ) (ss : List (WorkerState K I)) → All (λ s. IsIdle w s) ss → all_held w h g ss ≡ 0
idle_held w h g [] a = refl
idle_held w h g (s ∷ ss) a = omega (arith, (a 0 s (omega arith)).held_none h g, idle_held w h g ss (λ k d l. a (suc k) d (omega arith)))

-- idle states have received nothing
pub idle_received : {K I : Type 0} (w : Weight) (h : Entry → ℕ) (g : ℕ → ℕ) (ss : List (WorkerState K I)) → All (λ s. IsIdle w s) ss → all_received w h g ss ≡ 0
idle_received w h g [] a = refl
idle_received w h g (s ∷ ss) a = omega (arith, (a 0 s (omega arith)).received_none h g, idle_received w h g ss (λ k d l. a (suc k) d (omega arith)))

-- the journals of the states that were taken apart, and of those that were not
map_snoc : {A C : Type 0} (f : A → C) (xs : List A) (x : A) (ys : List C) → map f (xs ++ x ∷ []) ++ ys ≡ map f xs ++ f x ∷ ys
map_snoc f [] x ys = refl
map_snoc f (y ∷ xs) x ys = ap (λ r. f y ∷ r) (map_snoc f xs x ys)

-- one more journal was moved from the states to the list
pub journals_next : {A B C : Type 0} (f : A → C) (k : B → C) (js ks : List A) (ss ts : List B) (j : A) (s : B) →
    ks ≡ js ++ j ∷ [] → ss ≡ s ∷ ts → f j ≡ k s → map f ks ++ map k ts ≡ map f js ++ map k ss
journals_next f k js ks ss ts j s is there same =
    ap (λ xs. map f xs ++ map k ts) is ∙ map_snoc f js j (map k ts) ∙ ap (λ x. map f js ++ x ∷ map k ts) same
    ∙ ap (λ xs. map f js ++ map k xs) (sym there)
