-- The tables of faces
use Rattle.std.specs.Prelude.{◌≡◌, ◌≢◌, ◌⊎◌, ◌<◌, pos, List, length, All, Contains, ⊤}
use Rattle.std.specs.List.{AllZip}
use Rattle.ember_algebra.specs.Vector.{zero_v}
use Rattle.ember_model.specs.declared.plane.Plane.{Plane}
use Rattle.ember_model.specs.declared.point.Spot.{Spot}
use Rattle.ember_model.specs.Edges.{SamePoint}
use Rattle.ember_model.specs.FaceFiles.{IsLowest}
use Rattle.ember_model.specs.Valid.{IsValidPlane}
use Rattle.ember_width.specs.Broad.{IsBroadPlane}
use Rattle.ember_point.specs.Points.{weight, meet_of}
use Rattle.mesh_certificate.specs.declared.key.lines.LineKey.{LineKey}
use Rattle.mesh_certificate.specs.Key.PlaneKeys.{IsPlaneKey}
use Rattle.mesh_certificate.specs.Key.LineKeys.{IsLineKey, direction_of}
use Rattle.mesh_certificate.specs.declared.certificate.segment.Segment.{Segment}
use Rattle.mesh_point.specs.declared.space_point.SpacePoint.{SpacePoint}
use Rattle.mesh_point.specs.SpacePoints.{IsInReach}
use Rattle.mesh_certificate.specs.Certificate.Facing.{spot_of}
use Rattle.mesh_solid.specs.declared.tables.face_edge.FaceEdge.{FaceEdge}
use Rattle.mesh_solid.specs.declared.tables.keyed.Keyed.{Keyed}
use Rattle.mesh_solid.specs.declared.tables.fault.TableFault.{TableFault}
use Rattle.mesh_solid.specs.declared.tables.fault.TableFault.TheVariants.{NoLine, NoCorner, TooMany, OutOfMemory}
use Rattle.mesh_solid.specs.declared.tables.tables.Tables.{Tables}
use Rattle.mesh_solid.specs.Tables.Numberings.{HasEntry, AreDistinct}

-- ---- corners
-- the three planes meet in one point, and v is this point in lowest terms
pub record IsCorner (p q r : Plane) (v : Spot) : Type 0 where
  pub one : weight p q r ≢ pos 0
  pub same : SamePoint (meet_of p q r) v
  pub lowest : IsLowest v

-- they don't, or this point is out of the reach of corners
abbrev pub HasNoCorner : Plane → Plane → Plane → Type 0
HasNoCorner p q r = (weight p q r ≡ pos 0) ⊎ ((v : Spot) × IsCorner p q r v × (IsInReach v → ⊥))

-- ---- edges and segments
-- the numbers of the segment lead to the plane and the line of the edge, and to its two corners
pub record IsSegmentOf (ps : List Plane) (ls : List LineKey) (cs : List SpacePoint) (edge : FaceEdge)
    (s : Segment) : Type 0 where
  pub plane : HasEntry ps s.plane (IsPlaneKey edge.support)
  pub line : HasEntry ls s.line (IsLineKey edge.support edge.plane)
  pub start : HasEntry cs s.start (λ c. IsCorner edge.support edge.before edge.plane (spot_of c))
  pub end : HasEntry cs s.end (λ c. IsCorner edge.support edge.plane edge.after (spot_of c))

-- the plane is that of a face, of which this is an edge, and valid if the face's is
pub record IsPlaneOf (edges : List FaceEdge) (p : Plane) : Type 0 where
  pub edge : FaceEdge
  pub one : Contains edges edge
  pub is : IsPlaneKey edge.support p
  pub valid : IsValidPlane edge.support → IsValidPlane p

-- the segments are the edges in their order, no plane, line or corner has two numbers, and each plane is a face's
pub record AreTables (edges : List FaceEdge) (t : Tables) : Type 0 where
  pub segments : AllZip (IsSegmentOf t.planes.items t.lines.items t.corners.items) edges t.segments.items
  pub planes : AreDistinct (λ (p : Plane). p) t.planes.items
  pub lines : AreDistinct (λ (k : LineKey). k) t.lines.items
  pub corners : AreDistinct spot_of t.corners.items
  pub broad : All IsBroadPlane t.planes.items
  pub used : All (IsPlaneOf edges) t.planes.items

-- ---- faults
-- the edge has no line, or one of its corners doesn't exist within the limits
abbrev pub IsEdgeFault : FaceEdge → TableFault → Type 0
IsEdgeFault s (NoLine n) = (n ≡ s.face) × (direction_of s.support s.plane ≡ zero_v)
IsEdgeFault s (NoCorner n) =
    (n ≡ s.face) × (HasNoCorner s.support s.before s.plane ⊎ HasNoCorner s.support s.plane s.after)
IsEdgeFault s TooMany = ⊥
IsEdgeFault s OutOfMemory = ⊥

-- some edge has the fault
abbrev pub HasFault : List FaceEdge → TableFault → Type 0
HasFault edges e = (s : FaceEdge) × Contains edges s × IsEdgeFault s e

-- some edge has the fault, or there are too many edges; or out-of-memory
abbrev pub IsFault : List FaceEdge → TableFault → Type 0
IsFault edges (NoLine n) = HasFault edges (NoLine n)
IsFault edges (NoCorner n) = HasFault edges (NoCorner n)
IsFault edges TooMany = 2147483647 < length edges
IsFault edges OutOfMemory = ⊤

-- ---- on the way to a segment
-- k has the key of the edge's line, and the corner in which it ends
pub record IsKeyed (edge : FaceEdge) (k : Keyed) : Type 0 where
  pub line : IsLineKey edge.support edge.plane k.line
  pub end : IsCorner edge.support edge.plane edge.after (spot_of k.end)
