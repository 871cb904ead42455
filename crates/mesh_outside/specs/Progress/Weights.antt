-- How much boxes count. The root has the path 1, and the box with path p has the halves 2p and 2p + 1
use Rattle.std.specs.Prelude.{ℕ, ◌-◌, ◌/◌, ◌%◌, ◌^◌, ◌==◌, Bool}
use Rattle.std.specs.Int.{leading_zeros, w64}

-- the number of halvings that made the box: its path has one binary digit more
abbrev pub depth_of : ℕ → ℕ
depth_of path = 63 - leading_zeros w64 path

-- the root's weight is 2^16, and each halving halves it; after 16 halvings nothing is left
abbrev pub weight_of : ℕ → ℕ
weight_of path = 2 ^ 16 / 2 ^ depth_of path

-- the box is the left half of another
abbrev pub is_left : ℕ → Bool
is_left path = path % 2 == 0
