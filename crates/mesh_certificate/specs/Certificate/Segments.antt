-- The numbers of a segment
use Rattle.std.specs.Prelude.{ℕ, ◌<◌}

-- a plane, a line and two corners by numbers of 32 bits
pub record AreNumbers (plane line start end : ℕ) : Type 0 where
  pub plane_small : plane < 4294967296
  pub line_small : line < 4294967296
  pub start_small : start < 4294967296
  pub end_small : end < 4294967296
