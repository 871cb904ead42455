-- The size of a cross product of two normals
use Rattle.ember_algebra.specs.Size.{Small}
use Rattle.ember_algebra.specs.Vector.{Vector}

-- each entry is at most 2 * 33554431 ^ 2 in size, as of a cross product of normals
pub record IsCross (v : Vector) : Type 0 where
  pub x : Small 2251799679467522 v.x
  pub y : Small 2251799679467522 v.y
  pub z : Small 2251799679467522 v.z
