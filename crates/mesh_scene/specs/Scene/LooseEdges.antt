-- How many edges are loose
use Rattle.std.specs.Prelude.{ℕ, ◌-◌, nat_eq, Bool, if◌then◌else◌, List, [], ◌∷◌, sum_by}
use Rattle.std.specs.List.Sorted.{IsPermutation, IsNonDecreasing}
use Rattle.ember_algebra.specs.Sums.{occurrences}
use Rattle.ember_model.specs.declared.tri.Tri.{Tri}
use Rattle.ember_model.specs.Meshes.{Edge, reversed, edges_in, same_edge, edge_count}
use Rattle.ember_balance.specs.Counts.{count}

-- the elements of a list, each once
abbrev pub each_once : {U : Type 0} → (U → U → Bool) → List U → List U
each_once same [] = []
each_once same (x ∷ xs) =
    if nat_eq (occurrences same x xs) 0 then x ∷ each_once same xs else each_once same xs

-- by how much an edge occurs more often than its reverse
abbrev pub excess : List Edge → Edge → ℕ
excess es e = edge_count e es - edge_count (reversed e) es

-- the number of loose edges: the excess of all edges together
unfoldable pub loose_count : List Tri → ℕ
loose_count ts = sum_by (excess (edges_in ts)) (each_once same_edge (edges_in ts))

-- ---- of numbers
-- by how much numbers occur more often in the first list than in the second, all numbers together
unfoldable pub number_excess : List ℕ → List ℕ → ℕ
number_excess xs ys = sum_by (λ n. count n xs - count n ys) (each_once nat_eq xs)

-- these numbers in order
pub record AreSorted (numbers sorted : List ℕ) : Type 0 where
  pub permutation : IsPermutation numbers sorted
  pub rises : IsNonDecreasing sorted
