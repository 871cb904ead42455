-- The order of the tree.
use Rattle.std.specs.Prelude.{◌≡◌, ℕ, ◌*◌, ◌^◌, List, map}
use Rattle.std.specs.Int.{leading_zeros, w64}
use Rattle.std.specs.List.Sorted.{IsPermutation, IsNonDecreasingBy}
use Rattle.ember_tree.specs.declared.part.Part.{Part}

-- a path shifted left until its highest bit is bit 63: a box's left half has the box's key, and all boxes in the
-- right half have greater keys than all boxes in the left one
abbrev pub tree_key : ℕ → ℕ
tree_key path = path * 2 ^ leading_zeros w64 path

-- the items of the parts, put into the order of the tree
pub record IsMerged {I : Type 0} (parts : List (Part I)) (items : List I) : Type 0 where
  pub sorted : List (Part I)
  pub same : IsPermutation parts sorted
  pub ascends : IsNonDecreasingBy (λ p. tree_key p.path) sorted
  pub are : items ≡ map (λ p. p.item) sorted
