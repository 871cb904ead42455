-- Coordinates of points
use Rattle.std.specs.Prelude.{ℤ, pos, ◌<ℤ◌}
use Rattle.ember_algebra.specs.Size.{Small}
use Rattle.ember_width.specs.Broad.{IsRemainder, most_weight}

-- the remainder r and the weight w
pub record IsCoordinate (r w : ℤ) : Type 0 where
  pub rest : IsRemainder r w
  pub weight : Small most_weight w
  pub positive : pos 0 <ℤ w
