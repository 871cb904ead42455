-- What one worker, and all workers together, hold and have done.
use Rattle.std.specs.Prelude.{◌≡◌, ℕ, ◌+◌, ◌<◌, ◌≤◌, true, List, [], ◌∷◌, All, Option, Some, None, Vec}
use Rattle.std.specs.Prelude.{length, slice_index_or, option_to_list, ⊤}
use Rattle.std.specs.declared.alloc.Global.{Global}
use Rattle.crossbeam_deque.specs.Handles.{Pass, worker_deque, worker_view}
use Rattle.crossbeam_deque.specs.declared.handles.Stealer.{Stealer}
use Rattle.ember_job.specs.declared.job.Job.{Job}
use Rattle.ember_job.specs.declared.job.Entry.{Entry}
use Rattle.ember_job.specs.Weights.{weigh}
use Rattle.steal_pool.specs.declared.output.Output.{Output}
use Rattle.steal_pool.specs.declared.protocol.HandleView.{HandleView}
use Rattle.steal_pool.specs.declared.state.WorkerState.{WorkerState}
use Rattle.steal_pool.specs.Steps.{Weight, IsPart, EachPass, all_taken, ended, at_job, at_entry, at_left}

-- what is counted of a worker
pub record Account (I : Type 0) : Type 0 where
  pub hand : List Job
  pub output : Output I
  pub owner : HandleView
  pub passes : List (Pass Job HandleView Global)

-- the account of a worker's state
abbrev pub account : {K I : Type 0} → WorkerState K I → Account I
account s = record { hand = s.hand.items; output = s.output; owner = worker_view s.owner; passes = s.passes.items }

-- the weight of what a worker has ended, holds in hand and has pushed
abbrev pub held : {I : Type 0} → Weight → (Entry → ℕ) → (ℕ → ℕ) → Account I → ℕ
held weight h g a = ended h g a.output + weigh (weight h g) a.hand + weigh (weight h g) a.owner.pushed

-- the weight of what it has popped and stolen
abbrev pub received : {I : Type 0} → Weight → (Entry → ℕ) → (ℕ → ℕ) → Account I → ℕ
received weight h g a = weigh (weight h g) a.owner.taken + all_taken (weight h g) a.passes

-- the weight of the paths in its journal and in its hand
abbrev pub own_paths : {I : Type 0} → (ℕ → ℕ) → Account I → ℕ
own_paths h a = weigh (at_entry h) a.output.journal.items + weigh (at_job h) a.hand

-- the weight of the paths of the left halves of its journal's halved boxes
abbrev pub left_paths : {I : Type 0} → (ℕ → ℕ) → Account I → ℕ
left_paths h a = weigh (at_left h) a.output.journal.items

-- all that came in, these jobs among it, is ended, held or pushed, and the left half of what was halved stays here
pub record Balances {I : Type 0} (weight : Weight) (jobs : List Job) (old new : Account I) : Type 0 where
  pub lent : new.owner.lent ≡ old.owner.lent
  pub sums : (h : Entry → ℕ) (g : ℕ → ℕ) →
      held weight h g new + received weight h g old ≡ held weight h g old + received weight h g new +
      weigh (weight h g) jobs
  pub stays : (h : ℕ → ℕ) → own_paths h old + left_paths h new + weigh (at_job h) jobs ≤ own_paths h new +
      left_paths h old

-- the hand is empty if there is no job
abbrev pub EmptyIfNone : Option Job → List Job → Type 0
EmptyIfNone None hand = hand ≡ []
EmptyIfNone (Some j) hand = ⊤

-- the job that is run next leaves the hand or a deque; if there is none, the hand is empty
pub record Releases {I : Type 0} (weight : Weight) (job : Option Job) (old new : Account I) : Type 0 where
  pub lent : new.owner.lent ≡ old.owner.lent
  pub output : new.output ≡ old.output
  pub empty : EmptyIfNone job new.hand
  pub sums : (h : Entry → ℕ) (g : ℕ → ℕ) →
      held weight h g new + received weight h g old + weigh (weight h g) (option_to_list job) ≡ held weight h g old +
      received weight h g new
  pub stays : (h : ℕ → ℕ) →
      weigh (at_job h) old.hand ≤ weigh (at_job h) new.hand + weigh (at_job h) (option_to_list job)

-- a worker owns its deque, and has jobs of visited boxes and items that answer
pub record IsSound {K I : Type 0} (visited : Job → Type 0) (answers : Job → I → Type 0)
    (s : WorkerState K I) : Type 0 where
  pub owns : (worker_view s.owner).owns ≡ true
  pub visited_all : All visited s.hand.items
  pub parts_all : All (IsPart visited answers) s.output.parts.items

-- a worker may begin: it is sound, has a pass on each deque, and has ended nothing
pub record IsReady {P K I : Type 0} (visited : Job → Type 0) (answers : Job → I → Type 0)
    (stealers : List (Stealer Job Global HandleView P)) (s : WorkerState K I) : Type 0 where
  pub each : EachPass stealers s.passes.items
  pub sound : IsSound visited answers s
  pub no_journal : s.output.journal.items ≡ []

-- nothing was given to a worker, and it has ended and taken nothing
pub record IsIdle {K I : Type 0} (weight : Weight) (s : WorkerState K I) : Type 0 where
  pub held_none : (h : Entry → ℕ) (g : ℕ → ℕ) → held weight h g (account s) ≡ 0
  pub received_none : (h : Entry → ℕ) (g : ℕ → ℕ) → received weight h g (account s) ≡ 0

-- a worker has finished: its hand is empty, and it has ended or pushed all that it was given or took
pub record HasFinished {P K I : Type 0} (visited : Job → Type 0) (answers : Job → I → Type 0) (weight : Weight)
    (stealers : List (Stealer Job Global HandleView P)) (old new : WorkerState K I) : Type 0 where
  pub deque : worker_deque new.owner ≡ worker_deque old.owner
  pub each : EachPass stealers new.passes.items
  pub sound : IsSound visited answers new
  pub hand : new.hand.items ≡ []
  pub balance : Balances weight [] (account old) (account new)

-- if a worker says that it is done, it has finished
pub record FinishesIfDone {P K I : Type 0} (visited : Job → Type 0) (answers : Job → I → Type 0) (weight : Weight)
    (stealers : List (Stealer Job Global HandleView P)) (old new : WorkerState K I) : Type 0 where
  pub finished : new.done ≡ true → HasFinished visited answers weight stealers old new

-- each worker, before and after its run
abbrev pub EachFinishesIfDone : {P K I : Type 0} → (Job → Type 0) → (Job → I → Type 0) → Weight →
    List (Stealer Job Global HandleView P) → List (WorkerState K I) → List (WorkerState K I) → Type 0
EachFinishesIfDone visited answers weight stealers ss vs = (i : ℕ) (d : WorkerState _ _) → i < length ss →
    FinishesIfDone visited answers weight stealers (slice_index_or ss i d) (slice_index_or vs i d)

-- all workers have finished, one by one
abbrev pub EachFinished : {P K I : Type 0} → (Job → Type 0) → (Job → I → Type 0) → Weight →
    List (Stealer Job Global HandleView P) → List (WorkerState K I) → List (WorkerState K I) → Type 0
EachFinished visited answers weight stealers [] [] = ⊤
EachFinished visited answers weight stealers [] (v ∷ vs) = ⊥
EachFinished visited answers weight stealers (s ∷ ss) [] = ⊥
EachFinished visited answers weight stealers (s ∷ ss) (v ∷ vs) =
    HasFinished visited answers weight stealers s v × EachFinished visited answers weight stealers ss vs

-- the same of two vectors
abbrev pub AllFinish : {P K I : Type 0} → (Job → Type 0) → (Job → I → Type 0) → Weight →
    List (Stealer Job Global HandleView P) → Vec (WorkerState K I) Global → Vec (WorkerState K I) Global → Type 0
AllFinish visited answers weight stealers old new = EachFinished visited answers weight stealers old.items new.items

-- what all workers together hold, and have received
abbrev pub all_held : {K I : Type 0} → Weight → (Entry → ℕ) → (ℕ → ℕ) → List (WorkerState K I) → ℕ
all_held weight h g [] = 0
all_held weight h g (s ∷ ss) = held weight h g (account s) + all_held weight h g ss

abbrev pub all_received : {K I : Type 0} → Weight → (Entry → ℕ) → (ℕ → ℕ) → List (WorkerState K I) → ℕ
all_received weight h g [] = 0
all_received weight h g (s ∷ ss) = received weight h g (account s) + all_received weight h g ss
