-- How often numbers occur in lists
use Rattle.std.specs.Prelude.{ℕ, ◌<◌, ◌≤◌, nat_eq, List}
use Rattle.ember_algebra.specs.Sums.{occurrences}

-- how often a number occurs in a list
abbrev pub count : ℕ → List ℕ → ℕ
count n ns = occurrences nat_eq n ns

-- no number occurs more often in xs than in ys
pub record HasNoSurplus (xs ys : List ℕ) : Type 0 where
  pub none : (n : ℕ) → count n xs ≤ count n ys

-- k is the least number that does
pub record IsFirstSurplus (k : ℕ) (xs ys : List ℕ) : Type 0 where
  pub more : count k ys < count k xs
  pub first : (n : ℕ) → n < k → count n xs ≤ count n ys
