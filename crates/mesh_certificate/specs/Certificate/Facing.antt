-- Triangles that face the front of a plane
use Rattle.std.specs.Prelude.{◌≡◌, Bool, ◌&&◌, ℤ, pos, ◌<ℤ◌}
use Rattle.ember_algebra.specs.Vector.{Vector}
use Rattle.ember_algebra.specs.Vector.{dot, cross}
use Rattle.ember_algebra.specs.Sign.{is_zero}
use Rattle.ember_model.specs.declared.plane.Plane.{Plane}
use Rattle.ember_model.specs.declared.point.Spot.{Spot}
use Rattle.ember_model.specs.declared.point.Axis.{Axis}
use Rattle.ember_model.specs.Planes.{value_at}
use Rattle.ember_model.specs.Edges.{normal}
use Rattle.ember_model.specs.Points.{displacement}
pub use Rattle.mesh_point.specs.SpacePoints.{spot_of, seen_along}
use Rattle.mesh_point.specs.Turns.{rows}

-- the normal of the triangle u, v, w, times a positive number: from its side they go round it counter-clockwise
abbrev pub triangle_normal : Spot → Spot → Spot → Vector
triangle_normal u v w = cross (displacement u v) (displacement u w)

-- the corners lie on the plane, and the triangle's normal isn't 0 and points to the plane's front
pub record FacesFront (p : Plane) (u v w : Spot) : Type 0 where
  pub first : value_at p u ≡ pos 0
  pub second : value_at p v ≡ pos 0
  pub third : value_at p w ≡ pos 0
  pub front : pos 0 <ℤ dot (normal p) (triangle_normal u v w)

-- ---- the same, seen along an axis
-- positive if the three points turn to the left
abbrev pub turn_along : Axis → Spot → Spot → Spot → ℤ
turn_along k u v w = rows (seen_along k u) (seen_along k v) (seen_along k w)

-- ---- as a test
abbrev pub are_on : Plane → Spot → Spot → Spot → Bool
are_on p u v w = is_zero (value_at p u) && (is_zero (value_at p v) && is_zero (value_at p w))
