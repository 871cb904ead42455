-- Planes, and those of a triangle
use Rattle.std.specs.Prelude.{◌≡◌, ℤ, pos, ◌+ℤ◌, ◌-ℤ◌, ◌*ℤ◌, neg_ℤ, ◌&&◌, if◌then◌else◌, List, [], ◌∷◌}
use Rattle.std.specs.Prelude.{unsigned_abs, leb}
use Rattle.ember_algebra.specs.Vector.{Vector}
use Rattle.ember_algebra.specs.Vector.{dot, cross, minus_v}
use Rattle.ember_algebra.specs.Sign.{sign}
use Rattle.ember_model.specs.declared.point.Corner.{Corner}
use Rattle.ember_model.specs.declared.tri.Tri.{Tri}
use Rattle.ember_model.specs.declared.plane.Plane.{Plane}
use Rattle.ember_model.specs.declared.point.Spot.{Spot}
use Rattle.ember_model.specs.declared.point.Axis.{Axis}
use Rattle.ember_model.specs.declared.point.Axis.TheVariants.{X, Y, Z}

-- the corner's coordinates as a vector
abbrev pub vector_of : Corner → Vector
vector_of c = record { x = c.x; y = c.y; z = c.z }

-- the direction of an axis, of length 1
abbrev pub unit : Axis → Vector
unit X = record { x = pos 1; y = pos 0; z = pos 0 }
unit Y = record { x = pos 0; y = pos 1; z = pos 0 }
unit Z = record { x = pos 0; y = pos 0; z = pos 1 }

-- the value of a plane at a point: positive in front of it
abbrev pub value_at : Plane → Spot → ℤ
value_at p s = p.a *ℤ s.x +ℤ p.b *ℤ s.y +ℤ p.c *ℤ s.z -ℤ p.d *ℤ s.w

-- the entry of a plane's normal along an axis
abbrev pub along : Plane → Axis → ℤ
along p X = p.a
along p Y = p.b
along p Z = p.c

-- the plane with normal n that has the corner u on it
abbrev pub plane_through : Vector → Corner → Plane
plane_through n u = record { a = n.x; b = n.y; c = n.z; d = dot n (vector_of u) }

-- all four numbers of the plane times k
abbrev pub times_plane : ℤ → Plane → Plane
times_plane k p = record { a = k *ℤ p.a; b = k *ℤ p.b; c = k *ℤ p.c; d = k *ℤ p.d }

-- the vector from the corner u to the corner v
abbrev pub vector_between : Corner → Corner → Vector
vector_between u v = minus_v (vector_of v) (vector_of u)

-- the support plane of a triangle
abbrev pub support_of : Tri → Plane
support_of t = plane_through (cross (vector_between t.a t.b) (vector_between t.a t.c)) t.a

-- the axis of the largest entry of the normal, the first in a tie
abbrev pub main_axis : Plane → Axis
main_axis p =
    if leb (unsigned_abs p.b) (unsigned_abs p.a) && leb (unsigned_abs p.c) (unsigned_abs p.a) then X
    else if leb (unsigned_abs p.c) (unsigned_abs p.b) then Y else Z

-- the plane through the edge from u to v along a direction, without the triangle's sign
abbrev pub edge_through : Corner → Corner → Vector → Plane
edge_through u v direction = plane_through (cross (vector_between u v) direction) u

-- the edge planes of a triangle parallel to an axis, negative on the triangle's side
abbrev pub edge_planes : Tri → Axis → List Plane
edge_planes t k =
    let s = sign (along (support_of t) k) in
    times_plane s (edge_through t.a t.b (unit k)) ∷ times_plane s (edge_through t.b t.c (unit k)) ∷
    times_plane s (edge_through t.c t.a (unit k)) ∷ []

-- the same plane with the opposite front
abbrev pub opposite : Plane → Plane
opposite p = record { a = neg_ℤ p.a; b = neg_ℤ p.b; c = neg_ℤ p.c; d = neg_ℤ p.d }

-- the plane of zeros
abbrev pub zero_plane : Plane
zero_plane = record { a = pos 0; b = pos 0; c = pos 0; d = pos 0 }

-- the normal is zero
abbrev pub HasNoNormal : Plane → Type 0
HasNoNormal p = (p.a ≡ pos 0) × (p.b ≡ pos 0) × (p.c ≡ pos 0)
