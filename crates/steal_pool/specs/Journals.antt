-- Journals of all workers and of the caller, and the parts of a run.
use Rattle.std.specs.Prelude.{◌≡◌, ℕ, zero, suc, ◌+◌, ◌*◌, ◌<◌, List, [], ◌∷◌, All, map}
use Rattle.ember_job.specs.Weights.{SameEntries, weigh, one}
use Rattle.ember_job.specs.declared.job.Job.{Job}
use Rattle.ember_job.specs.declared.job.Entry.{Entry}
use Rattle.ember_job.specs.Works.{Shape, leafed, passed, halved}
use Rattle.ember_job.specs.Visited.{IsVisited, entry_of, visited, leaves}
use Rattle.ember_tree.specs.declared.part.Part.{Part}
use Rattle.steal_pool.specs.Steps.{IsPart, by_path, at_job, at_entry, if_halved}

-- how often a path occurs in a journal, and how often as that of a halved box
abbrev pub times : ℕ → List Entry → ℕ
times path journal = weigh (at_entry (one path)) journal

abbrev pub if_halved_at : ℕ → Entry → ℕ
if_halved_at path e = if_halved e.kind (one path e.path)

abbrev pub times_halved : ℕ → List Entry → ℕ
times_halved path journal = weigh (if_halved_at path) journal

-- the journal of a number, and none past the last one
abbrev pub journal_of : ℕ → List (List Entry) → List Entry
journal_of k [] = []
journal_of zero (j ∷ js) = j
journal_of (suc k) (j ∷ js) = journal_of k js

-- the rules of journals. `once`: the entries of all journals are those of the visited boxes, so each visited box is in
-- one journal, once, with its kind, and nothing else is in any. `begun`: box 1 is in the journal of worker 0. `lefts`:
-- the left half of a halved box is in the same journal as the box. `rights`: if the box is in the caller's journal, so
-- is its right half
pub record KeepRules (shape : Job → Shape) (root : Job) (workers : ℕ) (journals : List (List Entry)) : Type 0 where
  pub once : SameEntries journals (map (entry_of shape) (visited shape root))
  pub begun : 0 < times 1 (journal_of 0 journals)
  pub lefts : (k path : ℕ) → 0 < times_halved path (journal_of k journals) →
      0 < times (2 * path) (journal_of k journals)
  pub rights : (path : ℕ) → 0 < times_halved path (journal_of workers journals) →
      0 < times (2 * path + 1) (journal_of workers journals)

-- an item answers a job that is a leaf
abbrev pub AnswersLeaf : {I : Type 0} → (Job → Shape) → (Job → I → Type 0) → Job → I → Type 0
AnswersLeaf shape item job it = (shape job ≡ leafed) × item job it

-- there is one part for each leaf among the visited boxes, with its path and an item that answers its job. `once` says
-- that the paths of the parts are a permutation of the paths of the leaves
pub record AreParts {I : Type 0} (shape : Job → Shape) (item : Job → I → Type 0) (root : Job)
    (parts : List (Part I)) : Type 0 where
  pub once : (g : ℕ → ℕ) → weigh (by_path g) parts ≡ weigh (at_job g) (leaves shape root)
  pub items : All (IsPart (IsVisited shape root) (AnswersLeaf shape item)) parts

-- n for a leaf, otherwise 0
abbrev pub leaf_weight : Shape → ℕ → ℕ
leaf_weight (halved low high) n = 0
leaf_weight leafed n = n
leaf_weight passed n = 0

-- what a box weighs by itself: its entry by h, and if it is a leaf its path by g
abbrev pub box_weight : (Job → Shape) → (Entry → ℕ) → (ℕ → ℕ) → Job → ℕ
box_weight shape h g j = h (entry_of shape j) + leaf_weight (shape j) (g j.cell.path)

-- what a box weighs with all below it
abbrev pub tree_weight : (Job → Shape) → (Entry → ℕ) → (ℕ → ℕ) → Job → ℕ
tree_weight shape h g j = weigh (box_weight shape h g) (visited shape j)
