-- The journals of all workers and of the caller, against the boxes that the workers began with.
use Rattle.std.specs.Prelude.{◌≡◌, ℕ, ◌+◌, ◌≤◌, List, [], ◌∷◌, ◌++◌, reverse, length, ⊤}
use Rattle.ember_job.specs.Weights.{weigh}
use Rattle.ember_job.specs.declared.job.Entry.{Entry}
use Rattle.steal_pool.specs.declared.state.WorkerState.{WorkerState}
use Rattle.steal_pool.specs.Steps.{HasPaths, at_job, at_left, at_halves}

-- the left half of each halved box is in the journal
abbrev pub KeepsLeft : List Entry → Type 0
KeepsLeft journal = HasPaths journal (λ h. weigh (at_left h) journal)

-- both halves of each halved box are in the journal
abbrev pub KeepsBoth : List Entry → Type 0
KeepsBoth journal = HasPaths journal (λ h. weigh (at_halves h) journal)

-- this box is in the journal, and so is the left half of each halved box
abbrev pub Begins : ℕ → List Entry → Type 0
Begins path journal = HasPaths journal (λ h. h path + weigh (at_left h) journal)

-- each journal has the left half of each of its halved boxes
abbrev pub EachKeeps : List (List Entry) → Type 0
EachKeeps [] = ⊤
EachKeeps (j ∷ js) = KeepsLeft j × EachKeeps js

-- the last worker has this box in hand
pub record LastHolds {K I : Type 0} (path : ℕ) (states : List (WorkerState K I)) : Type 0 where
  pub front : List (WorkerState K I)
  pub last : WorkerState K I
  pub is : states ≡ front ++ last ∷ []
  pub holds : (h : ℕ → ℕ) → h path ≤ weigh (at_job h) last.hand.items

-- each worker's journal has what was in the worker's hand, and the left half of each halved box
abbrev pub EachStays : {K I : Type 0} → List (WorkerState K I) → List (List Entry) → Type 0
EachStays [] [] = ⊤
EachStays [] (j ∷ js) = ⊥
EachStays (s ∷ ss) [] = ⊥
EachStays (s ∷ ss) (j ∷ js) =
    HasPaths j (λ h. weigh (at_job h) s.hand.items + weigh (at_left h) j) × EachStays ss js

-- the journals of these workers, the last worker's first, and then the caller's
pub record WorkerJournals {K I : Type 0} (states : List (WorkerState K I)) (journals : List (List Entry))
    (left : ℕ) : Type 0 where
  pub ended : List (List Entry)
  pub caller : List Entry
  pub is : journals ≡ reverse ended ++ caller ∷ []
  pub stays : EachStays states ended
  pub both : KeepsBoth caller
  pub last : left ≡ length caller

-- the journals of this many workers, of whom the first began with this box, and then the caller's
pub record RunJournals (path workers : ℕ) (journals : List (List Entry)) (left : ℕ) : Type 0 where
  pub first : List Entry
  pub others : List (List Entry)
  pub caller : List Entry
  pub is : journals ≡ (first ∷ others) ++ caller ∷ []
  pub count : length (first ∷ others) ≡ workers
  pub begun : Begins path first
  pub lefts : EachKeeps others
  pub both : KeepsBoth caller
  pub last : left ≡ length caller
