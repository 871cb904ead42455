-- The boxes that a run enters, and what they weigh together
use Rattle.std.specs.Prelude.{ℕ, ◌+◌, ◌*◌, List, [], ◌∷◌, ◌++◌, not, filter, sum_by}
use Rattle.mesh_outside.specs.Progress.Weights.{is_left, weight_of}

-- the boxes of a run from one of them on: it isn't halved, or it is, with the boxes of both halves
pub data Boxes : Type 0 where
  single : Boxes
  halved : Boxes → Boxes → Boxes

-- their paths, if the first one has this path
abbrev pub paths : ℕ → Boxes → List ℕ
paths p single = p ∷ []
paths p (halved left right) = p ∷ (paths (2 * p) left ++ paths (2 * p + 1) right)

-- the weights of left halves together; each is taken off, since the box, which weighs twice as much, turned out to be
-- halved
abbrev pub left_weight : List ℕ → ℕ
left_weight ps = sum_by weight_of (filter is_left ps)

-- the weights of the root and of right halves together
abbrev pub other_weight : List ℕ → ℕ
other_weight ps = sum_by weight_of (filter (λ p. not (is_left p)) ps)
