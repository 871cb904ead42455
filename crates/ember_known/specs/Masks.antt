-- Sets of meshes, as the bits of a number
use Rattle.std.specs.Prelude.{ℕ, ◌-◌, ◌==◌, Bool}
use Rattle.std.specs.Int.{bit_at}

-- bit n - 1 is set if mesh n is in the set
abbrev pub is_in : ℕ → ℕ → Bool
is_in mask n = bit_at mask (n - 1) == 1
