-- The heights of a valid triangle over a valid plane are at most 2^40 in size.
use Rattle.std.proofs.Common.{◌^◌, lit≤, pos}
use Rattle.ember_algebra.specs.Size.{Small}
use Rattle.ember_algebra.proofs.Size.{small_within, small_mul, small_add, small_sub}
use Rattle.ember_model.specs.declared.point.Corner.{Corner}
use Rattle.ember_model.specs.declared.plane.Plane.{Plane}
use Rattle.ember_model.specs.declared.tri.Tri.{Tri}
use Rattle.ember_model.specs.Planes.{value_at}
use Rattle.ember_model.specs.Owners.{spot_of_corner}
use Rattle.ember_model.specs.Valid.{IsValidCorner, IsValidTri, IsValidPlane}
use Rattle.ember_width.specs.Heights.{heights_of}
use Rattle.ember_pairs.specs.Heights.{AreSmall}

one : Small 1 (pos 1)
one = record { small = lit≤ tt }

value_small : (p : Plane) (u : Corner) → IsValidPlane p → IsValidCorner u → Small (2 ^ 40) (value_at p (spot_of_corner u))
value_small p u s o =
    small_within (lit≤ tt)
    (small_sub (small_add (small_add (small_mul s.a o.x) (small_mul s.b o.y)) (small_mul s.c o.z)) (small_mul s.d one))

-- at all three corners
pub heights_small : (p : Plane) (t : Tri) → IsValidPlane p → IsValidTri t → AreSmall (heights_of p t)
heights_small p t s v =
    record { a = value_small p t.a s v.a; b = value_small p t.b s v.b; c = value_small p t.c s v.c }
