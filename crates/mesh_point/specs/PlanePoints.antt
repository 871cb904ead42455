-- Points of a plane by the unit squares in which they lie
use Rattle.std.specs.Prelude.{ℤ, pos, ◌<ℤ◌}
use Rattle.ember_algebra.specs.Size.{Small}
use Rattle.ember_width.specs.Broad.{IsRemainder, most_weight}

-- the remainders a and b of the coordinates, and the weight d
pub record IsPlanePoint (a b d : ℤ) : Type 0 where
  pub x : IsRemainder a d
  pub y : IsRemainder b d
  pub w : Small most_weight d
  pub positive : pos 0 <ℤ d
