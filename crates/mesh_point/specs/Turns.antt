-- Which way points of a plane turn
use Rattle.std.specs.Prelude.{ℤ, ◌+ℤ◌, ◌*ℤ◌}
use Rattle.ember_algebra.specs.Vector.{Vector}
use Rattle.ember_algebra.specs.Sign.{sgn}
use Rattle.ember_algebra.specs.declared.Sign.{Sign}
use Rattle.ember_algebra.specs.Det.{det3}
use Rattle.mesh_point.specs.declared.plane_point.PlanePoint.{PlanePoint}

-- a point's coordinates times its weight, and the weight
abbrev pub numbers_of : PlanePoint → Vector
numbers_of p = record { x = p.floor_x *ℤ p.w +ℤ p.x; y = p.floor_y *ℤ p.w +ℤ p.y; z = p.w }

-- the determinant of three rows
abbrev pub rows : Vector → Vector → Vector → ℤ
rows a b c = det3 a.x a.y a.z b.x b.y b.z c.x c.y c.z

-- the sign of the determinant of three points: positive if they turn to the left
abbrev pub orientation : PlanePoint → PlanePoint → PlanePoint → Sign
orientation p q r = sgn (rows (numbers_of p) (numbers_of q) (numbers_of r))
