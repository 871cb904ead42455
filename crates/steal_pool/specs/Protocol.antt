-- What the handles of one deque have done, and the invariant that all of them keep.
use Rattle.std.specs.Prelude.{◌≡◌, ◌≢◌, ℕ, ◌+◌, ◌-◌, Bool, true, false, List, [], ◌∷◌, ◌++◌, All, Result}
use Rattle.std.specs.Prelude.{Option, MatchResult, MatchOption}
use mathlib.Core.Option.{some}
use lib.ListN.{get_elem?}
use Rattle.ember_job.specs.Weights.{weigh}
use Rattle.ember_job.specs.declared.job.Job.{Job}
use Rattle.steal_pool.specs.declared.protocol.HandleView.{HandleView}

-- the view of a handle, by its fields
abbrev pub handle : Bool → ℕ → List Job → List Job → HandleView
handle owns lent pushed taken = record { owns = owns; lent = lent; pushed = pushed; taken = taken }

-- the handle after it pushed these jobs
abbrev pub with_pushed : HandleView → List Job → HandleView
with_pushed v xs = handle v.owns v.lent (v.pushed ++ xs) v.taken

-- the handle after it took these jobs
abbrev pub with_taken : HandleView → List Job → HandleView
with_taken v xs = handle v.owns v.lent v.pushed (v.taken ++ xs)

-- the owner's handle after it made a pass
abbrev pub with_one_lent : HandleView → HandleView
with_one_lent v = handle v.owns (v.lent + 1) v.pushed v.taken

-- the owner's handle after a pass came back
abbrev pub with_returned : HandleView → HandleView → HandleView
with_returned v w = handle v.owns (v.lent - w.lent) v.pushed (v.taken ++ w.taken)

-- a pass that has taken nothing
abbrev pub new_pass : HandleView
new_pass = handle false 1 [] []

-- a push adds the job, or hands it back and changes nothing
abbrev pub IsPush : {U : Type 0} → Job → Result U Job → HandleView → HandleView → Type 0
IsPush job r old new = MatchResult r (λ _. new ≡ with_pushed old (job ∷ [])) (λ x. (x ≡ job) × (new ≡ old))

-- a pop or a steal takes a visited job, or changes nothing
abbrev pub IsTake : (Job → Type 0) → Option Job → HandleView → HandleView → Type 0
IsTake visited r old new = MatchOption r (new ≡ old) (λ x. (new ≡ with_taken old (x ∷ [])) × visited x)

-- how many passes are out by the owner's handle, and 0 for another handle
abbrev pub owner_lent : Bool → ℕ → ℕ
owner_lent true n = n
owner_lent false n = 0

-- a guest is a handle that isn't the owner's: 1 while its pass is out, and 0 for the owner's
abbrev pub guest_lent : Bool → ℕ → ℕ
guest_lent true n = 0
guest_lent false n = n

-- a port is the index of a handle of the deque, and v is the view of the handle `port`: only the handle `owner` is the
-- owner's, no other has pushed, and a spent pass has taken nothing
abbrev pub Fits : ℕ → ℕ → HandleView → Type 0
Fits owner port v = (v.owns ≡ true → port ≡ owner) × (port ≢ owner → (v.pushed ≡ []) × (v.lent ≡ 0 → v.taken ≡ []))

-- the invariant of a deque: each job is that of a visited box; what was pushed is what was taken and what the deque
-- holds, however jobs are weighed; the owner knows how many passes are out
pub record JobsConserved (visited : Job → Type 0) (items : List Job) (views : List HandleView) : Type 0 where
  pub owner : ℕ
  pub visited_all : All visited items
  pub fits : (port : ℕ) (v : HandleView) → get_elem? views port ≡ some v → Fits owner port v
  pub same : (h : Job → ℕ) → weigh (λ v. weigh h v.pushed) views ≡ weigh (λ v. weigh h v.taken) views + weigh h items
  pub lent : weigh (λ v. guest_lent v.owns v.lent) views ≡ weigh (λ v. owner_lent v.owns v.lent) views

-- if all passes are back with the owner, it has taken what it has pushed
abbrev pub TookAllPushed : HandleView → Type 0
TookAllPushed v = v.lent ≡ 0 → (h : Job → ℕ) → weigh h v.taken ≡ weigh h v.pushed

-- a pop once all passes are back: it takes a visited job, or all that was pushed is taken
abbrev pub IsDrain : (Job → Type 0) → Option Job → HandleView → HandleView → Type 0
IsDrain visited r old new = MatchOption r (TookAllPushed old) (λ x. (new ≡ with_taken old (x ∷ [])) × visited x)
