-- The journals of all workers, put together.
use Rattle.std.proofs.Common.{◌≡◌, ℕ, suc, ◌+◌, ◌≤◌, All, List, [], ◌∷◌, ◌++◌, map, reverse, length, refl, sym, ap, ◌∙◌, subst, arith}
use Rattle.std.proofs.lemmas.List.{reverse-append, length-reverse, map-append}
use Rattle.std.specs.declared.alloc.Global.{Global}
use Rattle.crossbeam_deque.specs.declared.handles.Stealer.{Stealer}
use Rattle.ember_job.specs.Weights.{weigh}
use Rattle.ember_job.proofs.Weights.{weigh_map}
use Rattle.ember_job.specs.declared.job.Job.{Job}
use Rattle.ember_job.specs.declared.job.Entry.{Entry}
use Rattle.steal_pool.specs.declared.protocol.HandleView.{HandleView}
use Rattle.steal_pool.specs.declared.state.WorkerState.{WorkerState}
use Rattle.steal_pool.specs.Steps.{Weight, at_job, at_entry, at_left}
use Rattle.steal_pool.specs.Workers.{IsReady, EachFinished}
use Rattle.steal_pool.specs.States.{journals_of}
use Rattle.steal_pool.proofs.DequeSteps.{weigh_append}
use Rattle.steal_pool.specs.RunJournals.{Begins, EachKeeps, LastHolds, EachStays, WorkerJournals, RunJournals}

-- each worker that finished has in its journal what was in its hand, and the left halves
pub each_stays : {P K I : Type 0} (visited : Job → Type 0) (answers : Job → I →
    Type 0) (w : Weight) (ts : List (Stealer Job Global HandleView P)) (ss vs : List (WorkerState K I)) →
    All (IsReady visited answers ts) ss → EachFinished visited answers w ts ss vs → EachStays ss (journals_of vs)
each_stays visited answers w ts [] [] a e = tt
each_stays visited answers w ts [] (v ∷ vs) a e = absurd e
each_stays visited answers w ts (s ∷ ss) [] a e = absurd e
each_stays visited answers w ts (s ∷ ss) (v ∷ vs) a e = (
  (λ h. omega (
    arith,
    e.0.balance.stays h,
    ap (weigh (at_entry h)) (a 0 s (omega arith)).no_journal,
    ap (weigh (at_left h)) (a 0 s (omega arith)).no_journal,
    ap (weigh (at_job h)) e.0.hand,
  )),
  each_stays visited answers w ts ss vs (λ k d l. a (suc k) d (omega arith)) e.1,
)

map_reverse : {A C : Type 0} (f : A → C) (xs : List A) → map f (reverse xs) ≡ reverse (map f xs)
map_reverse f [] = refl
map_reverse f (x ∷ xs) = ap (map f) (reverse-append (x ∷ []) xs) ∙ map-append f (reverse xs) (x ∷ [])
    ∙ ap (λ ys. ys ++ f x ∷ []) (map_reverse f xs) ∙ sym (reverse-append (f x ∷ []) (map f xs))

-- reversing the workers' journals and appending the caller's
pub journals_are : {A C : Type 0} (f : A → C) (js rs ps : List A) (j : A) (ended : List C) → rs ≡ reverse js →
    ps ≡ rs ++ j ∷ [] → map f js ≡ ended → map f ps ≡ reverse ended ++ f j ∷ []
journals_are f js rs ps j ended turned pushed same =
    ap (map f) pushed ∙ map-append f rs (j ∷ []) ∙ ap (λ ys. ys ++ f j ∷ [])
    (ap (map f) turned ∙ map_reverse f js ∙ ap reverse same)

weigh_reverse : {A : Type 0} (h : A → ℕ) (xs : List A) → weigh h (reverse xs) ≡ weigh h xs
weigh_reverse h [] = refl
weigh_reverse h (x ∷ xs) = omega (arith, ap (weigh h) (reverse-append (x ∷ []) xs), weigh_append h (reverse xs) (x ∷ []), weigh_reverse h xs)

-- and the sum of their weights
pub journals_weigh : {A C : Type 0} (f : A → C) (js rs ps : List A) (j : A) → rs ≡ reverse js → ps ≡ rs ++ j ∷ [] →
    (h : C → ℕ) → weigh h (map f ps) ≡ weigh (λ x. h (f x)) js + h (f j)
journals_weigh f js rs ps j turned pushed h = omega (
  arith,
  weigh_map f h ps,
  ap (weigh (λ x. h (f x))) pushed,
  weigh_append (λ x. h (f x)) rs (j ∷ []),
  ap (weigh (λ x. h (f x))) turned,
  weigh_reverse (λ x. h (f x)) js,
)

keeps_append : (xs ys : List (List Entry)) → EachKeeps xs → EachKeeps ys → EachKeeps (xs ++ ys)
keeps_append [] ys a b = b
keeps_append (x ∷ xs) ys a b = (a.0, keeps_append xs ys a.1 b)

keeps_reverse : (xs : List (List Entry)) → EachKeeps xs → EachKeeps (reverse xs)
keeps_reverse [] a = tt
keeps_reverse (x ∷ xs) a = subst EachKeeps (sym (reverse-append (x ∷ []) xs)) (keeps_append (reverse xs) (x ∷ []) (keeps_reverse xs a.1) (a.0, tt))

-- the journal of the last worker, and those before it
record Split (path : ℕ) (many : ℕ) (ended : List (List Entry)) : Type 0 where
  pub front : List (List Entry)
  pub last : List Entry
  pub is : ended ≡ front ++ last ∷ []
  pub keeps : EachKeeps front
  pub begun : Begins path last
  pub count : length front ≡ many

split : {K I : Type 0} (path : ℕ) (front : List (WorkerState K I)) (last : WorkerState K I) (ended : List (List Entry))
    → ((h : ℕ → ℕ) → h path ≤ weigh (at_job h) last.hand.items) → EachStays (front ++ last ∷ []) ended →
    Split path (length front) ended
split path [] last [] holds e = absurd e
split path [] last (j ∷ []) holds e = record { front = []; last = j; is = refl; keeps = tt; begun = λ h. omega (arith, e.0 h, holds h); count = refl }
split path [] last (j ∷ k ∷ js) holds e = absurd e.1
split path (s ∷ front) last [] holds e = absurd e
split path (s ∷ front) last (j ∷ js) holds e =
    let r = split path front last js holds e.1 in record {
      front = j ∷ r.front;
      last = r.last;
      is = ap (λ xs. j ∷ xs) r.is;
      keeps = ((λ h. omega (arith, e.0 h)), r.keeps);
      begun = r.begun;
      count = ap suc r.count;
    }

length_snoc : {X : Type 0} (xs : List X) (x : X) → length (xs ++ x ∷ []) ≡ suc (length xs)
length_snoc [] x = refl
length_snoc (y ∷ xs) x = ap suc (length_snoc xs x)

-- the workers' journals and the caller's are those of a run from the root's path
pub journals_gathered : {K I : Type 0} (path : ℕ) (states : List (WorkerState K I)) (journals : List (List Entry))
    (left : ℕ) → LastHolds path states → WorkerJournals states journals left →
    RunJournals path (length states) journals left
journals_gathered path states journals left root books =
    let r = split path root.front root.last books.ended root.holds (subst (λ ss. EachStays ss books.ended) root.is books.stays) in record {
      first = r.last;
      others = reverse r.front;
      caller = books.caller;
      is = books.is ∙ ap (λ xs. reverse xs ++ books.caller ∷ []) r.is ∙ ap (λ xs. xs ++ books.caller ∷ []) (reverse-append r.front (r.last ∷ []));
      count = ap suc (length-reverse r.front ∙ r.count) ∙ sym (length_snoc root.front root.last) ∙ sym (ap length root.is);
      begun = r.begun;
      lefts = keeps_reverse r.front r.keeps;
      both = books.both;
      last = books.last;
    }
