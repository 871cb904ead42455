-- Triangles of one plane that aren't apart
use Rattle.std.specs.Prelude.{◌≡◌, ◌≢◌, ◌⊎◌, Bool, true, false, ℤ, pos, ◌*ℤ◌, ◌<ℤ◌, ◌≤ℤ◌}
use Rattle.ember_algebra.specs.Vector.{dot}
use Rattle.ember_algebra.specs.Sign.{is_negative}
use Rattle.ember_model.specs.declared.plane.Plane.{Plane}
use Rattle.ember_model.specs.declared.point.Axis.{Axis}
use Rattle.ember_model.specs.declared.point.Corner.{Corner}
use Rattle.ember_model.specs.declared.point.Spot.{Spot}
use Rattle.ember_model.specs.declared.tri.Tri.{Tri}
use Rattle.ember_model.specs.Planes.{value_at, support_of}
use Rattle.ember_model.specs.Edges.{normal}
pub use Rattle.mesh_point.specs.SpacePoints.{coordinate}
use Rattle.mesh_certificate.specs.Certificate.Facing.{spot_of, triangle_normal, FacesFront}
use Rattle.mesh_sources.specs.declared.corners.Corners.{Corners}
use Rattle.mesh_sources.specs.declared.facet.Facet.{Facet}

-- ---- three points
pub record Spots : Type 0 where
  pub u : Spot
  pub v : Spot
  pub w : Spot

abbrev pub spots_of : Corners → Spots
spots_of c = record { u = spot_of c.u; v = spot_of c.v; w = spot_of c.w }

-- a corner of the scene as a point
abbrev pub spot_at : Corner → Spot
spot_at c = record { x = c.x; y = c.y; z = c.z; w = pos 1 }

-- each of the three points has the property
abbrev pub EachSpot : (Spot → Type 0) → Spots → Type 0
EachSpot P s = P s.u × P s.v × P s.w

abbrev pub SomeSpot : (Spot → Type 0) → Spots → Type 0
SomeSpot P s = P s.u ⊎ (P s.v ⊎ P s.w)

-- some edge, from one point to the next, has it
abbrev pub SomeEdge : (Spot → Spot → Type 0) → Spots → Type 0
SomeEdge E s = E s.u s.v ⊎ (E s.v s.w ⊎ E s.w s.u)

-- each edge has it
abbrev pub EachEdge : (Spot → Spot → Type 0) → Spots → Type 0
EachEdge E s = E s.u s.v × E s.v s.w × E s.w s.u

abbrev pub AreOn : Plane → Spots → Type 0
AreOn p s = EachSpot (λ x. value_at p x ≡ pos 0) s

-- ---- triangles of the scene
-- positive if the triangle t, which lies in the plane p, faces the plane's front, negative if it faces the back, and 0
-- if t has no area
abbrev pub facing : Plane → Tri → ℤ
facing p t = dot (normal p) (normal (support_of t))

abbrev pub is_turned : Plane → Tri → Bool
is_turned p t = is_negative (facing p t)

abbrev pub spots_in_order : Tri → Spots
spots_in_order t = record { u = spot_at t.a; v = spot_at t.b; w = spot_at t.c }

-- the corners of t, in the opposite order if it is turned
abbrev pub spots_turned : Bool → Tri → Spots
spots_turned true t = record { u = spot_at t.a; v = spot_at t.c; w = spot_at t.b }
spots_turned false t = spots_in_order t

-- the corners of t, counter-clockwise as seen from the front of p
abbrev pub spots_seen : Plane → Tri → Spots
spots_seen p t = spots_turned (is_turned p t) t

-- ---- apart
-- x isn't on the inner side of the edge from a to b of a triangle that is counter-clockwise as seen from the front of p
abbrev pub IsOutside : Plane → Spot → Spot → Spot → Type 0
IsOutside p a b x = dot (normal p) (triangle_normal a b x) ≤ℤ pos 0

-- the line of some edge of r has all of s on its outer side or on it
abbrev pub HasOuter : Plane → Spots → Spots → Type 0
HasOuter p r s = SomeEdge (λ a b. EachSpot (λ x. IsOutside p a b x) s) r

-- along the axis a has a lower coordinate than b, as rational points
abbrev pub IsBefore : Axis → Spot → Spot → Type 0
IsBefore k a b = (b.w *ℤ coordinate k a) <ℤ (a.w *ℤ coordinate k b)

-- along the axis all of r is before all of s
abbrev pub AreBefore : Axis → Spots → Spots → Type 0
AreBefore k r s = EachSpot (λ a. EachSpot (λ b. IsBefore k a b) s) r

-- the boxes around the two have no point in common
abbrev pub AreBoxesApart : Spots → Spots → Type 0
AreBoxesApart r s = (k : Axis) × (AreBefore k r s ⊎ AreBefore k s r)

-- r and s lie in the plane p and are counter-clockwise as seen from its front: their boxes are apart, or the line of an
-- edge of one has all of the other one on its outer side or on it
abbrev pub AreApart : Plane → Spots → Spots → Type 0
AreApart p r s = AreBoxesApart r s ⊎ (HasOuter p r s ⊎ HasOuter p s r)

-- ---- inner points
-- r lies in the plane p, and its points have positive weights
pub record IsTriangleOn (p : Plane) (r : Spots) : Type 0 where
  pub weights : EachSpot (λ v. pos 0 <ℤ v.w) r
  pub on : AreOn p r

-- x is on the inner side of the edge from a to b of a triangle that is counter-clockwise as seen from the front of p
abbrev pub IsOnInnerSide : Plane → Spot → Spot → Spot → Type 0
IsOnInnerSide p a b x = pos 0 <ℤ dot (normal p) (triangle_normal a b x)

-- x lies in the plane p, on the inner side of each edge of r. Only a triangle that is counter-clockwise as seen from
-- the front of p has such a point
pub record IsInner (p : Plane) (r : Spots) (x : Spot) : Type 0 where
  pub weight : pos 0 <ℤ x.w
  pub on : value_at p x ≡ pos 0
  pub inside : EachEdge (λ a b. IsOnInnerSide p a b x) r

-- ---- places
-- the facet faces the front of its plane
abbrev pub IsProper : Facet → Type 0
IsProper f = let s = spots_of f.corners in FacesFront f.plane s.u s.v s.w

-- t has an area, lies in the plane of the facet, which is proper, and isn't apart from it
pub record IsPlace (f : Facet) (t : Tri) : Type 0 where
  pub proper : IsProper f
  pub lies : AreOn f.plane (spots_in_order t)
  pub area : facing f.plane t ≢ pos 0
  pub meets : AreApart f.plane (spots_of f.corners) (spots_seen f.plane t) → ⊥
