-- The states of all workers, each with the index of its deque, before and after their runs.
use Rattle.std.specs.Prelude.{◌≡◌, ℕ, ◌+◌, List, [], ◌∷◌, All, map, ⊤}
use Rattle.std.specs.declared.alloc.Global.{Global}
use Rattle.crossbeam_deque.specs.Handles.{worker_deque, worker_view, stealer_deque}
use Rattle.crossbeam_deque.specs.declared.handles.Stealer.{Stealer}
use Rattle.crossbeam_deque.specs.declared.handles.Worker.{Worker}
use Rattle.ember_job.specs.declared.job.Job.{Job}
use Rattle.ember_job.specs.declared.job.Entry.{Entry}
use Rattle.steal_pool.specs.declared.protocol.HandleView.{HandleView}
use Rattle.steal_pool.specs.declared.protocol.JobProtocol.{JobProtocol}
use Rattle.steal_pool.specs.declared.state.WorkerState.{WorkerState}
use Rattle.ember_tree.specs.declared.part.Part.{Part}
use Rattle.ember_job.specs.Weights.{weigh}
use Rattle.steal_pool.specs.declared.state.WorkerOutputs.{WorkerOutputs}
use Rattle.steal_pool.specs.Steps.{Weight, EachPass, IsPart, by_path}
use Rattle.steal_pool.specs.Owners.{EachOwner, all_pushed, owners_taken, rows_taken}
use Rattle.steal_pool.specs.Workers.{IsReady, IsIdle, all_held, all_received}

-- each state's deque is that with its index, and the view of its owner's end has the property Q
abbrev pub EachState : {K I : Type 0} → (HandleView → Type 0) →
    List (Stealer Job Global HandleView (JobProtocol K)) → List (WorkerState K I) → Type 0
EachState Q [] [] = ⊤
EachState Q [] (s ∷ ss) = ⊥
EachState Q (t ∷ ts) [] = ⊥
EachState Q (t ∷ ts) (s ∷ ss) = ((worker_deque s.owner ≡ stealer_deque t) × Q (worker_view s.owner)) × EachState Q ts ss

-- some states were made from their owners' ends, in order
abbrev pub MakingStates : {K I : Type 0} → (HandleView → Type 0) →
    List (Stealer Job Global HandleView (JobProtocol K)) → List (WorkerState K I) →
    List (Worker Job Global HandleView (JobProtocol K)) → Type 0
MakingStates Q ts [] os = EachOwner Q ts os
MakingStates Q [] (s ∷ ss) os = ⊥
MakingStates Q (t ∷ ts) (s ∷ ss) os =
    ((worker_deque s.owner ≡ stealer_deque t) × Q (worker_view s.owner)) × MakingStates Q ts ss os

-- some states were taken apart, in order
abbrev pub TakingStates : {K I : Type 0} → (HandleView → Type 0) →
    List (Stealer Job Global HandleView (JobProtocol K)) → List (Worker Job Global HandleView (JobProtocol K)) →
    List (WorkerState K I) → Type 0
TakingStates Q ts [] ss = EachState Q ts ss
TakingStates Q [] (o ∷ os) ss = ⊥
TakingStates Q (t ∷ ts) (o ∷ os) ss = ((worker_deque o ≡ stealer_deque t) × Q (worker_view o)) × TakingStates Q ts os ss

-- a worker hands over what it has: its hand is empty
pub record MayLeave {P K I : Type 0} (visited : Job → Type 0) (answers : Job → I → Type 0)
    (stealers : List (Stealer Job Global HandleView P)) (s : WorkerState K I) : Type 0 where
  pub each : EachPass stealers s.passes.items
  pub hand : s.hand.items ≡ []
  pub parts_all : All (IsPart visited answers) s.output.parts.items

-- a new state: it is ready, and nothing was given to it
pub record IsNew {P K I : Type 0} (visited : Job → Type 0) (answers : Job → I → Type 0) (weight : Weight)
    (stealers : List (Stealer Job Global HandleView P)) (s : WorkerState K I) : Type 0 where
  pub ready : IsReady visited answers stealers s
  pub idle : IsIdle weight s

-- the journals of the workers, in order
abbrev pub journals_of : {K I : Type 0} → List (WorkerState K I) → List (List Entry)
journals_of states = map (λ s. s.output.journal.items) states

-- what is handed over: the workers' journals in their order, and all that they hold and have received
pub record HandsOver {K I : Type 0} (weight : Weight) (states : List (WorkerState K I))
    (outputs : WorkerOutputs K I) : Type 0 where
  pub journals : map (λ j. j.items) outputs.journals.items ≡ journals_of states
  pub held : (h : Entry → ℕ) (g : ℕ → ℕ) →
      weigh (λ j. weigh h j.items) outputs.journals.items + weigh (by_path g) outputs.parts.items +
      all_pushed (weight h g) outputs.owners.items ≡ all_held weight h g states
  pub received : (h : Entry → ℕ) (g : ℕ → ℕ) →
      owners_taken (weight h g) outputs.owners.items + rows_taken (weight h g) outputs.rows.items ≡
      all_received weight h g states

-- the root alone is held
pub record HoldRoot {K I : Type 0} (weight : Weight) (root : Job) (states : List (WorkerState K I)) : Type 0 where
  pub held : (h : Entry → ℕ) (g : ℕ → ℕ) → all_held weight h g states ≡ weight h g root
  pub received : (h : Entry → ℕ) (g : ℕ → ℕ) → all_received weight h g states ≡ 0

-- all that the workers held at the start, but for what they had received, is in the journals and among the parts
abbrev pub Conserves : {K I : Type 0} → Weight → List (WorkerState K I) → List (List Entry) → List (Part I) → Type 0
Conserves weight states journals parts = (h : Entry → ℕ) (g : ℕ → ℕ) →
    weigh (weigh h) journals + weigh (by_path g) parts + all_received weight h g states ≡ all_held weight h g states

-- the whole tree below a box is in the journals and among the parts: for all weights h of entries and g of paths of
-- leaves, these weigh what the box weighs. With g = 0 the weight of the box is that of the entries of all visited
-- boxes, so this is `once` of `KeepRules`; with h = 0 it is that of the paths of all leaves, so this is `once` of
-- `AreParts`
abbrev pub HoldsTree : {I : Type 0} → Weight → Job → List (List Entry) → List (Part I) → Type 0
HoldsTree weight root journals parts =
    (h : Entry → ℕ) (g : ℕ → ℕ) → weigh (weigh h) journals + weigh (by_path g) parts ≡ weight h g root
