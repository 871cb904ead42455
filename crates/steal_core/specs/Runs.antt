-- Runs of the core over a tree of boxes, each with a number that ends it.
use Rattle.std.specs.Prelude.{◌≡◌, ℕ, ◌+◌, ◌*◌, ◌≤◌, List, [], ◌∷◌, ◌++◌, if◌then◌else◌, ◌==◌}
use Rattle.steal_core.specs.declared.place.Placed.{Placed}
use Rattle.steal_core.specs.declared.place.Event.{Event}
use Rattle.steal_core.specs.declared.place.Event.TheVariants.{Push, Hold, Pop, Steal, Drain, Finish}
use Rattle.steal_core.specs.Core.{Core, core, begin, Steps, AllEnded}

-- a list of events leads from one state to another, each by its step
pub data Run : Core → List Event → Core → Type 0 where
  none : (a : Core) → Run a [] a
  then : (e : Event) (es : List Event) (a b c : Core) → Steps e a b → Run b es c → Run a (e ∷ es) c

-- a visited box and what is visited below it
pub data Tree : Type 0 where
  rests : Tree
  halved : Tree → Tree → Tree

-- the rules of journals for the box p and the tree below it; `owner path` is the number of the journal that has the
-- box, and n is the caller's
abbrev pub Rules : ℕ → (ℕ → ℕ) → Tree → ℕ → Type 0
Rules n owner rests p = owner p ≤ n
Rules n owner (halved l r) p = (owner p ≤ n) × (owner (2 * p) ≡ owner p) × (owner p ≡ n → owner (2 * p + 1) ≡ n) ×
    Rules n owner l (2 * p) × Rules n owner r (2 * p + 1)

-- p is added if its number is k
abbrev pub keep : ℕ → ℕ → ℕ → List ℕ → List ℕ
keep k i p ps = if i == k then p ∷ ps else ps

-- the halved boxes of journal k, and its other boxes
abbrev pub halved_in : ℕ → (ℕ → ℕ) → Tree → ℕ → List ℕ
halved_in k owner rests p = []
halved_in k owner (halved l r) p = keep k (owner p) p (halved_in k owner l (2 * p) ++ halved_in k owner r (2 * p + 1))

abbrev pub others_in : ℕ → (ℕ → ℕ) → Tree → ℕ → List ℕ
others_in k owner rests p = keep k (owner p) p []
others_in k owner (halved l r) p = others_in k owner l (2 * p) ++ others_in k owner r (2 * p + 1)

-- what number k ended by Push or Hold, and by Finish
abbrev pub halved_by : ℕ → List Event → List ℕ
halved_by k [] = []
halved_by k (Push by path ∷ es) = keep k by path (halved_by k es)
halved_by k (Hold by path ∷ es) = keep k by path (halved_by k es)
halved_by k (Pop by ∷ es) = halved_by k es
halved_by k (Steal by from ∷ es) = halved_by k es
halved_by k (Drain from ∷ es) = halved_by k es
halved_by k (Finish by path ∷ es) = halved_by k es

abbrev pub finished_by : ℕ → List Event → List ℕ
finished_by k [] = []
finished_by k (Push by path ∷ es) = finished_by k es
finished_by k (Hold by path ∷ es) = finished_by k es
finished_by k (Pop by ∷ es) = finished_by k es
finished_by k (Steal by from ∷ es) = finished_by k es
finished_by k (Drain from ∷ es) = finished_by k es
finished_by k (Finish by path ∷ es) = keep k by path (finished_by k es)

-- a list of steps from the start, after which all boxes have ended, in which each number ends exactly the boxes of
-- its journal
pub record IsRun (n room : ℕ) (owner : ℕ → ℕ) (tree : Tree) : Type 0 where
  pub events : List Event
  pub last : List Placed
  pub run : Run (begin n room) events (core n room last)
  pub ended : AllEnded last
  pub halved : (k : ℕ) → halved_by k events ≡ halved_in k owner tree 1
  pub finished : (k : ℕ) → finished_by k events ≡ others_in k owner tree 1
