-- The words that the proofs share: a point ahead on a line, planes that contain the line, the rectangle round the point.
use Rattle.std.proofs.Common.{◌≡◌, ◌≢◌, ℤ, pos, negsuc, ◌+ℤ◌, ◌*ℤ◌, cond}
use Rattle.std.specs.List.{AllByRecursion}
use Rattle.ember_algebra.specs.Vector.{Vector, dot, cross}
use Rattle.ember_algebra.specs.Sign.{sign}
use Rattle.ember_model.specs.declared.plane.Plane.{Plane}
use Rattle.ember_model.specs.declared.point.Spot.{Spot}
use Rattle.ember_model.specs.declared.point.Axis.{Axis}
use Rattle.ember_model.specs.declared.point.Axis.TheVariants.{X, Y, Z}
use Rattle.ember_model.specs.declared.face.Face.{Face}
use Rattle.ember_model.specs.Planes.{value_at}
use Rattle.ember_model.specs.Points.{scaled, moved, displacement}
use Rattle.ember_model.specs.Faces.{leg}
use Rattle.ember_model.specs.Edges.{RingEdge, normal, is_on_edge}
use Rattle.ember_meaning.specs.Closed.Chains.{DirectedEdge}

-- ---- on a line
-- the point a little ahead of x along d, if m is large
abbrev pub ahead : Spot → Vector → ℤ → Spot
ahead x d m =
    record { x = m *ℤ x.x +ℤ d.x; y = m *ℤ x.y +ℤ d.y; z = m *ℤ x.z +ℤ d.z; w = m *ℤ x.w }

-- a plane through t contains the line through t along d
pub record IsGeneral (d : Vector) (t : Spot) (h : Plane) : Type 0 where
  pub contains : value_at h t ≡ pos 0 → dot (normal h) d ≡ pos 0

-- the same of the planes of a face
pub record IsGeneralFace (d : Vector) (t : Spot) (f : Face) : Type 0 where
  pub support : IsGeneral d t f.support
  pub edges : AllByRecursion (λ h. IsGeneral d t h) f.edges

-- along d, t is beside neither end of the edge
pub record IsOffEnds (d : Vector) (t : Spot) (e : DirectedEdge) : Type 0 where
  pub from : dot (displacement e.from t) d ≢ pos 0
  pub to : dot (displacement e.to t) d ≢ pos 0

-- ---- the rectangle round t that the line leads through
abbrev pub component : Vector → Axis → ℤ
component v X = v.x
component v Y = v.y
component v Z = v.z

-- the next axis in cyclic order
abbrev pub next : Axis → Axis
next X = Y
next Y = Z
next Z = X

-- its corners: moved by sb along the second axis after c, and far less by sa along the first
abbrev pub corner : Axis → Spot → ℤ → ℤ → ℤ → Spot
corner c t m sa sb = moved (moved (scaled (m *ℤ m) t) (next (next c)) (m *ℤ sb)) (next c) sa

-- the legs over its four sides, counter-clockwise seen from the end of c
abbrev pub loop : Axis → Spot → ℤ → Face → ℤ
loop c t m f =
    leg f (corner c t m (pos 1) (negsuc 0)) (corner c t m (pos 1) (pos 1)) +ℤ leg f (corner c t m (pos 1) (pos 1))
    (corner c t m (negsuc 0) (pos 1)) +ℤ leg f (corner c t m (negsuc 0) (pos 1)) (corner c t m (negsuc 0) (negsuc 0))
    +ℤ leg f (corner c t m (negsuc 0) (negsuc 0)) (corner c t m (pos 1) (negsuc 0))

-- 1 or -1 where t lies on the edge of e, which runs along d or against it
abbrev pub edge_turn : Vector → Spot → Face → RingEdge → ℤ
edge_turn d t f e =
    cond (is_on_edge f e.plane t) (sign (dot (cross (normal f.support) (normal e.plane)) d)) (pos 0)
