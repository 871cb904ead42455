-- The owners' ends of all deques.
use Rattle.std.specs.Prelude.{◌≡◌, ℕ, zero, suc, ◌+◌, true, List, [], ◌∷◌, All, Vec, ⊤}
use Rattle.std.specs.declared.alloc.Global.{Global}
use Rattle.crossbeam_deque.specs.Handles.{Pass, view, IsPassOf, worker_deque, worker_view, stealer_deque}
use Rattle.crossbeam_deque.specs.declared.handles.Stealer.{Stealer}
use Rattle.crossbeam_deque.specs.declared.handles.Worker.{Worker}
use Rattle.ember_job.specs.declared.job.Job.{Job}
use Rattle.steal_pool.specs.declared.protocol.HandleView.{HandleView}
use Rattle.ember_job.specs.Weights.{weigh}
use Rattle.steal_pool.specs.declared.output.Output.{Output}
use Rattle.ember_job.specs.declared.job.Entry.{Entry}
use Rattle.steal_pool.specs.Protocol.{handle, new_pass, with_one_lent}
use Rattle.steal_pool.specs.Steps.{Weight, EachPass, all_taken, ended}

-- each owner's end is of the deque with its index, and its view has the property Q
abbrev pub EachOwner : {P : Type 0} → (HandleView → Type 0) → List (Stealer Job Global HandleView P) →
    List (Worker Job Global HandleView P) → Type 0
EachOwner Q [] [] = ⊤
EachOwner Q [] (o ∷ os) = ⊥
EachOwner Q (t ∷ ts) [] = ⊥
EachOwner Q (t ∷ ts) (o ∷ os) = ((worker_deque o ≡ stealer_deque t) × Q (worker_view o)) × EachOwner Q ts os

-- the view of an owner's handle with this many passes out, before anything was pushed or taken. (In src/pool.rt `fresh`
-- is a list of worker states)
abbrev pub Fresh : ℕ → HandleView → Type 0
Fresh lent v = v ≡ handle true lent [] []

-- the same at any time, whatever was pushed and taken
abbrev pub Lent : ℕ → HandleView → Type 0
Lent lent v = (v.owns ≡ true) × (v.lent ≡ lent)

-- the weight of all jobs that the owners pushed
abbrev pub all_pushed : {P : Type 0} → (Job → ℕ) → List (Worker Job Global HandleView P) → ℕ
all_pushed h [] = 0
all_pushed h (o ∷ os) = weigh h (worker_view o).pushed + all_pushed h os

-- the weight of all jobs that the owners took: by pops, and by passes that came back, what these took
abbrev pub owners_taken : {P : Type 0} → (Job → ℕ) → List (Worker Job Global HandleView P) → ℕ
owners_taken h [] = 0
owners_taken h (o ∷ os) = weigh h (worker_view o).taken + owners_taken h os

-- the first i owners have made one more pass
abbrev pub Lending : {P : Type 0} → ℕ → ℕ → List (Stealer Job Global HandleView P) →
    List (Worker Job Global HandleView P) → List (Pass Job HandleView Global) → Type 0
Lending lent zero ts os [] = EachOwner (Fresh lent) ts os
Lending lent zero ts os (p ∷ ps) = ⊥
Lending lent (suc i) (t ∷ ts) (o ∷ os) (p ∷ ps) =
    ((worker_deque o ≡ stealer_deque t) × Fresh (lent + 1) (worker_view o) × IsPassOf (stealer_deque t) p ×
    (view p ≡ new_pass)) × Lending lent i ts os ps
Lending lent (suc i) [] os ps = ⊥
Lending lent (suc i) (t ∷ ts) [] ps = ⊥
Lending lent (suc i) (t ∷ ts) (o ∷ os) [] = ⊥

-- the first i owners have taken back one more pass
abbrev pub Absorbing : {P : Type 0} → ℕ → ℕ → List (Stealer Job Global HandleView P) →
    List (Worker Job Global HandleView P) → List (Pass Job HandleView Global) → Type 0
Absorbing lent zero ts os ps = EachOwner (Lent (lent + 1)) ts os × EachPass ts ps
Absorbing lent (suc i) (t ∷ ts) (o ∷ os) ps =
    ((worker_deque o ≡ stealer_deque t) × Lent lent (worker_view o)) × Absorbing lent i ts os ps
Absorbing lent (suc i) [] os ps = ⊥
Absorbing lent (suc i) (t ∷ ts) [] ps = ⊥

-- all passes came back to each owner
abbrev pub AllBack : {P : Type 0} → List (Worker Job Global HandleView P) → Type 0
AllBack [] = ⊤
AllBack (o ∷ os) = Lent 0 (worker_view o) × AllBack os

-- a row is a list of passes, one on each deque: those that one worker has or had. Each of these lists is a row
abbrev pub EachRow : {P : Type 0} → List (Stealer Job Global HandleView P) →
    List (Vec (Pass Job HandleView Global) Global) → Type 0
EachRow ts rows = All (λ r. EachPass ts r.items) rows

-- these passes are a row, and have taken nothing
pub record NewRow {P : Type 0} (ts : List (Stealer Job Global HandleView P))
    (passes : List (Pass Job HandleView Global)) : Type 0 where
  pub each : EachPass ts passes
  pub taken : (h : Job → ℕ) → all_taken h passes ≡ 0

-- the weights of what the passes of all rows have taken
abbrev pub rows_taken : (Job → ℕ) → List (Vec (Pass Job HandleView Global) Global) → ℕ
rows_taken h rows = weigh (λ r. all_taken h r.items) rows

-- an owner made a pass on its deque
pub record Lends {P : Type 0} (old new : Worker Job Global HandleView P)
    (pass : Pass Job HandleView Global) : Type 0 where
  pub deque : worker_deque new ≡ worker_deque old
  pub of_deque : IsPassOf (worker_deque old) pass
  pub view_is : worker_view new ≡ with_one_lent (worker_view old)
  pub pass_is : view pass ≡ new_pass

-- what was pushed and not taken was run to its end
abbrev pub AddsDrained : {I : Type 0} → Weight → HandleView → Output I → Output I → Type 0
AddsDrained weight v old new = (h : Entry → ℕ) (g : ℕ → ℕ) →
    ended h g new + weigh (weight h g) v.taken ≡ ended h g old + weigh (weight h g) v.pushed

-- the same for all deques
abbrev pub AddsAllDrained : {P I : Type 0} → Weight → List (Worker Job Global HandleView P) → Output I → Output I →
    Type 0
AddsAllDrained weight os old new = (h : Entry → ℕ) (g : ℕ → ℕ) →
    ended h g new + owners_taken (weight h g) os ≡ ended h g old + all_pushed (weight h g) os
