-- Remainders of coordinates
use Rattle.std.specs.Prelude.{ℕ, ℤ, pos, ◌<ℤ◌}
use Rattle.ember_algebra.specs.Size.{Small}
use Rattle.ember_width.specs.Broad.{IsRemainder}

-- the greatest weight of a corner: 2^75 - 1
abbrev pub most_corner_weight : ℕ
most_corner_weight = 37778931862957161709567

-- the remainders a, b and c of three coordinates, and the weight d
pub record AreRests (a b c d : ℤ) : Type 0 where
  pub x : IsRemainder a d
  pub y : IsRemainder b d
  pub z : IsRemainder c d
  pub w : Small most_corner_weight d
  pub positive : pos 0 <ℤ d
