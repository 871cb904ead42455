-- Steps between points as vectors, and how large they are
use Rattle.std.specs.Prelude.{ℕ}
use Rattle.ember_algebra.specs.Vector.{Vector}
use Rattle.ember_algebra.specs.Size.{Small}
use Rattle.ember_model.specs.declared.vector3.Vector3.{Vector3}

abbrev pub as_vector : Vector3 → Vector
as_vector s = record { x = s.x; y = s.y; z = s.z }

-- each coordinate is at most m in size
pub record IsVector3Within (m : ℕ) (s : Vector3) : Type 0 where
  pub x : Small m s.x
  pub y : Small m s.y
  pub z : Small m s.z
