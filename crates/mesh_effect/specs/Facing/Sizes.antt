-- Sizes of short coordinates
use Rattle.std.specs.Prelude.{ℤ, ◌^◌}
use Rattle.ember_algebra.specs.Size.{Small}

-- each coordinate is at most 2^48 in size
pub record IsShort (a b c : ℤ) : Type 0 where
  pub x : Small (2 ^ 48) a
  pub y : Small (2 ^ 48) b
  pub z : Small (2 ^ 48) c

-- each difference is at most 2^49 in size
pub record IsShortStep (a b c : ℤ) : Type 0 where
  pub x : Small (2 ^ 49) a
  pub y : Small (2 ^ 49) b
  pub z : Small (2 ^ 49) c
