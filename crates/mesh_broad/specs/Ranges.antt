-- Remainders of coordinates: their range
use Rattle.std.specs.Prelude.{ℕ, ◌^◌, ◌<◌}

-- the remainders a, b and c, and the weight d
pub record AreRemainders (a b c d : ℕ) : Type 0 where
  pub x : a < d
  pub y : b < d
  pub z : c < d
  pub w : d < 2 ^ 123
