-- What a worker has ended and holds, against what it was given and has taken. Lists are compared by weights: two lists
-- with the same sum for every weight are permutations of each other.
use Rattle.std.specs.Prelude.{◌≡◌, ℕ, ◌+◌, ◌*◌, ◌≤◌, List, [], ◌∷◌, Result, IfOk, Option, Some, None}
use Rattle.std.specs.Prelude.{MatchOption, Vec, ⊤}
use Rattle.std.specs.Borrow.{Bor}
use Rattle.std.specs.declared.alloc.Global.{Global}
use Rattle.std.specs.declared.alloc.AllocError.{AllocError}
use Rattle.crossbeam_deque.specs.Handles.{Pass, view, IsPassOf, stealer_deque}
use Rattle.crossbeam_deque.specs.declared.handles.Stealer.{Stealer}
use Rattle.ember_box.specs.Boxes.{halvings_left}
use Rattle.ember_job.specs.declared.job.Job.{Job}
use Rattle.ember_job.specs.declared.job.Kind.{Kind}
use Rattle.ember_job.specs.declared.job.Kind.TheVariants.{Halved, Leafed, Passed}
use Rattle.ember_job.specs.declared.job.Entry.{Entry}
use Rattle.ember_job.specs.declared.job.Outcome.{Outcome}
use Rattle.ember_job.specs.declared.job.Outcome.TheVariants.{Halves, Leaf, Skipped}
use Rattle.ember_job.specs.Visited.{entry}
use Rattle.ember_job.specs.Weights.{weigh}
use Rattle.ember_tree.specs.declared.part.Part.{Part}
use Rattle.steal_pool.specs.declared.heap_jobs.HalfJobs.{HalfJobs}
use Rattle.steal_pool.specs.declared.output.Output.{Output}
use Rattle.steal_pool.specs.declared.protocol.HandleView.{HandleView}

-- a part is weighed by its path
abbrev pub by_path : {I : Type 0} → (ℕ → ℕ) → Part I → ℕ
by_path g p = g p.path

-- what a box weighs with all below it, by the weights of entries and of the paths of leaves
abbrev pub Weight : Type 0
Weight = (Entry → ℕ) → (ℕ → ℕ) → Job → ℕ

-- the outcome of a visited box. Halves are visited too, have the paths 2p and 2p + 1 and may be halved once less; the
-- item of a leaf answers the job; and the box weighs its entry plus its halves, or plus its leaf
abbrev pub OutcomeFits : {I : Type 0} → (Job → Type 0) → (Job → I → Type 0) → Weight → Job → Outcome I → Type 0
OutcomeFits visited answers weight j (Halves l r) = visited l × visited r × (l.cell.path ≡ 2 * j.cell.path) ×
    (r.cell.path ≡ 2 * j.cell.path + 1) × (halvings_left l.cell + 1 ≡ halvings_left j.cell) ×
    (halvings_left r.cell + 1 ≡ halvings_left j.cell) × ((h : Entry → ℕ) (g : ℕ → ℕ) →
    weight h g j ≡ h (entry j.cell.path Halved) + weight h g l + weight h g r)
OutcomeFits visited answers weight j (Leaf item) =
    answers j item × ((h : Entry → ℕ) (g : ℕ → ℕ) → weight h g j ≡ h (entry j.cell.path Leafed) + g j.cell.path)
OutcomeFits visited answers weight j Skipped = (h : Entry → ℕ) (g : ℕ → ℕ) → weight h g j ≡ h (entry j.cell.path Passed)

-- the call may be made at each visited box, and its outcome fits it. `visited`, `answers` and `weight` say what this
-- means in a run; `pre` and `post` are the contract of the calls of the type F
pub record RunsVisited {I F : Type 0} (visited : Job → Type 0) (answers : Job → I → Type 0) (weight : Weight)
    (pre : F → Bor Job → Type 0) (post : F → Bor Job → Result (Outcome I) AllocError → Type 0)
    (call : F) : Type 0 where
  pub may_run : (p : Bor Job) → visited p.now → pre call p
  pub fits : (p : Bor Job) (r : Result (Outcome I) AllocError) → visited p.now → post call p r →
      IfOk r (λ o. OutcomeFits visited answers weight p.now o)

-- the item of a part answers the visited job of its path
pub record IsPart {I : Type 0} (visited : Job → Type 0) (answers : Job → I → Type 0) (p : Part I) : Type 0 where
  pub job : Job
  pub is_visited : visited job
  pub path : p.path ≡ job.cell.path
  pub item : answers job p.item

-- each pass is of the deque with its index, and is not spent
abbrev pub EachPass : {P : Type 0} → List (Stealer Job Global HandleView P) → List (Pass Job HandleView Global) → Type 0
EachPass [] [] = ⊤
EachPass [] (p ∷ ps) = ⊥
EachPass (t ∷ ts) [] = ⊥
EachPass (t ∷ ts) (p ∷ ps) = (IsPassOf (stealer_deque t) p × ((view p).lent ≡ 1)) × EachPass ts ps

-- the weights of what all these passes have taken
abbrev pub all_taken : (Job → ℕ) → List (Pass Job HandleView Global) → ℕ
all_taken h [] = 0
all_taken h (p ∷ ps) = weigh h (view p).taken + all_taken h ps

-- weights by path: of jobs, of entries, and of the left half and of both halves of a halved box
abbrev pub at_job : (ℕ → ℕ) → Job → ℕ
at_job h j = h j.cell.path

abbrev pub at_entry : (ℕ → ℕ) → Entry → ℕ
at_entry h e = h e.path

abbrev pub if_halved : Kind → ℕ → ℕ
if_halved Halved n = n
if_halved Leafed n = 0
if_halved Passed n = 0

abbrev pub at_left : (ℕ → ℕ) → Entry → ℕ
at_left h e = if_halved e.kind (h (2 * e.path))

abbrev pub at_halves : (ℕ → ℕ) → Entry → ℕ
at_halves h e = if_halved e.kind (h (2 * e.path) + h (2 * e.path + 1))

-- the journal has these paths, each at least as often: for every weight h, its own paths weigh at least as much.
-- `paths` gives the sum of the weights of these
abbrev pub HasPaths : List Entry → ((ℕ → ℕ) → ℕ) → Type 0
HasPaths journal paths = (h : ℕ → ℕ) → paths h ≤ weigh (at_entry h) journal

-- the weight of all that was ended: the entries of the journal, and the paths of the parts
abbrev pub ended : {I : Type 0} → (Entry → ℕ) → (ℕ → ℕ) → Output I → ℕ
ended h g o = weigh h o.journal.items + weigh (by_path g) o.parts.items

-- the halves of a visited box are those of visited boxes, and may be halved once less
abbrev pub AreHalves : (Job → Type 0) → Job → Option HalfJobs → Type 0
AreHalves visited j None = ⊤
AreHalves visited j (Some b) =
    visited b.left × visited b.right × (halvings_left b.left.cell + 1 ≡ halvings_left j.cell) ×
    (halvings_left b.right.cell + 1 ≡ halvings_left j.cell)

-- the left half, if any, and both halves, if any, as lists
abbrev pub left_jobs : Option HalfJobs → List Job
left_jobs None = []
left_jobs (Some b) = b.left ∷ []

abbrev pub half_jobs : Option HalfJobs → List Job
half_jobs None = []
half_jobs (Some b) = b.left ∷ b.right ∷ []

-- a box ended: its entry was written, its item was added if it is a leaf, and its halves, if any, are still to be run.
-- `sums`: what is ended now and the halves still to be run weigh what was ended before and this box. `path`: the
-- journal has grown by the box's path. `left`: the list of the left halves of all halved boxes of the journal has one
-- more, that of this box, if the box was halved. `both`: likewise, the list of their left and right halves
pub record EndsBox {I : Type 0} (weight : Weight) (job : Job) (old new : Output I)
    (halves : Option HalfJobs) : Type 0 where
  pub sums : (h : Entry → ℕ) (g : ℕ → ℕ) →
      ended h g new + weigh (weight h g) (half_jobs halves) ≡ ended h g old + weight h g job
  pub path : (h : ℕ → ℕ) → weigh (at_entry h) new.journal.items ≡ weigh (at_entry h) old.journal.items + h job.cell.path
  pub left : (h : ℕ → ℕ) → weigh (at_left h) new.journal.items ≡ weigh (at_left h) old.journal.items +
      weigh (at_job h) (left_jobs halves)
  pub both : (h : ℕ → ℕ) → weigh (at_halves h) new.journal.items ≡ weigh (at_halves h) old.journal.items +
      weigh (at_job h) (half_jobs halves)

-- a box was run with all below it: what is ended now weighs what was ended before and this box
abbrev pub AddsBox : {I : Type 0} → Weight → Job → Output I → Output I → Type 0
AddsBox weight job old new = (h : Entry → ℕ) (g : ℕ → ℕ) → ended h g new ≡ ended h g old + weight h g job

-- both halves of each box that was halved between old and new are in the journal: for every weight, the journal has
-- grown by at least the weight of these halves
abbrev pub KeepsHalves : {I : Type 0} → Output I → Output I → Type 0
KeepsHalves old new = (h : ℕ → ℕ) → weigh (at_entry h) old.journal.items + weigh (at_halves h) new.journal.items ≤
    weigh (at_entry h) new.journal.items + weigh (at_halves h) old.journal.items

-- and so is the box with this path
abbrev pub KeepsHalvesAnd : {I : Type 0} → ℕ → Output I → Output I → Type 0
KeepsHalvesAnd path old new = (h : ℕ → ℕ) →
    weigh (at_entry h) old.journal.items + weigh (at_halves h) new.journal.items + h path ≤
    weigh (at_entry h) new.journal.items + weigh (at_halves h) old.journal.items

-- a steal takes a visited job by one of these passes, or changes nothing
abbrev pub StealsOne : (Job → Type 0) → Option Job → List (Pass Job HandleView Global) →
    List (Pass Job HandleView Global) → Type 0
StealsOne visited r old new =
    MatchOption r ((h : Job → ℕ) → all_taken h new ≡ all_taken h old) (λ x. visited x ×
    ((h : Job → ℕ) → all_taken h new ≡ all_taken h old + h x))

-- a job went to the deque or to the hand
pub record Shares (job : Job) (old new : HandleView) (hand new_hand : Vec Job Global) : Type 0 where
  pub owns : new.owns ≡ old.owns
  pub lent : new.lent ≡ old.lent
  pub taken : new.taken ≡ old.taken
  pub stays : (h : Job → ℕ) → weigh h hand.items ≤ weigh h new_hand.items
  pub sums : (h : Job → ℕ) → weigh h new_hand.items + weigh h new.pushed ≡ weigh h hand.items + weigh h old.pushed +
      h job
