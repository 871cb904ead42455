-- Points in short numbers
use Rattle.std.specs.Prelude.{ℕ, ◌^◌, ◌<◌}

-- the coordinates a and b, times a weight, and the weight d
pub record IsShortTriple (a b d : ℕ) : Type 0 where
  pub x : a < 2 ^ 123
  pub y : b < 2 ^ 123
  pub w : d < 2 ^ 90
  pub positive : 0 < d
