-- Points by their steps from the least floors of three points
use Rattle.std.specs.Prelude.{ℕ, ◌^◌, ◌<◌}

-- the steps i to the right and j up, the remainders a and b, and the weight d
pub record IsLocalPoint (i j a b d : ℕ) : Type 0 where
  pub right : i < 2 ^ 32
  pub up : j < 2 ^ 32
  pub x : a < d
  pub y : b < d
  pub w : d < 2 ^ 123
