-- Tables of some edges
use Rattle.std.specs.Prelude.{◌≡◌, ℕ, ◌+◌, ◌≤◌, List, ◌∷◌, ◌++◌, length, map, All}
use Rattle.std.specs.List.{AllZip, IsDistinct}
use Rattle.ember_model.specs.declared.plane.Plane.{Plane}
use Rattle.ember_width.specs.Broad.{IsBroadPlane}
use Rattle.mesh_solid.specs.declared.tables.face_edge.FaceEdge.{FaceEdge}
use Rattle.mesh_solid.specs.declared.tables.draft.TableBuilder.{TableBuilder}
use Rattle.mesh_solid.specs.declared.tables.keyed.Keyed.{Keyed}
use Rattle.mesh_certificate.specs.Certificate.Facing.{spot_of}
use Rattle.mesh_certificate.specs.Key.PlaneKeys.{IsPlaneKey}
use Rattle.mesh_solid.specs.Tables.Edges.{edges_round}
use Rattle.mesh_solid.specs.Tables.Numberings.{HasEntry, plane_of, same_entry, same_line, same_corner}
use Rattle.mesh_solid.specs.Tables.Tables.{IsCorner, IsKeyed, IsPlaneOf, IsSegmentOf}

-- the planes of d
abbrev pub planes_in : TableBuilder → List Plane
planes_in d = map plane_of d.planes.keys

-- d has the tables and the segments of the edges
pub record IsDraft (edges : List FaceEdge) (d : TableBuilder) : Type 0 where
  pub planes : IsDistinct same_entry d.planes.keys
  pub lines : IsDistinct same_line d.lines.keys
  pub corners : IsDistinct same_corner d.corners.keys
  pub broad : All IsBroadPlane (planes_in d)
  pub segments : AllZip (IsSegmentOf (planes_in d) d.lines.keys d.corners.keys) edges d.segments.items

-- d is the draft of those of all edges that are before the rest; the face of the next one may have its plane already
pub record IsDraftBefore (all rest : List FaceEdge) (d : TableBuilder) : Type 0 where
  pub done : List FaceEdge
  pub split : done ++ rest ≡ all
  pub draft : IsDraft done d
  pub used : All (IsPlaneOf all) (planes_in d)

-- no more entries than the segments can use, so that their numbers have 32 bits
pub record HasFew (d : TableBuilder) : Type 0 where
  pub planes : length d.planes.keys ≤ length d.segments.items
  pub lines : length d.lines.keys ≤ length d.segments.items
  pub corners : length d.corners.keys ≤ length d.segments.items + length d.segments.items
  pub fits : length d.segments.items ≤ 2147483647

-- the same within a face, for the tables of lines and of corners
pub record HasRoom (d : TableBuilder) : Type 0 where
  pub lines : length d.lines.keys ≤ length d.segments.items
  pub corners : length d.corners.keys ≤ length d.segments.items + length d.segments.items + 1

-- ---- what comes next
-- it is so of all edges and of those behind the next one, if d is the draft of those before it, and the next one has
-- this plane, starts in this corner, and has these keys
abbrev pub IfEdge : TableBuilder → ℕ → ℕ → Keyed → (List FaceEdge → List FaceEdge → Type 0) → Type 0
IfEdge d plane start keyed Are =
    (all rest : List FaceEdge) (edge : FaceEdge) → IsDraftBefore all (edge ∷ rest) d → IsKeyed edge keyed →
    HasEntry (planes_in d) plane (IsPlaneKey edge.support) →
    HasEntry d.corners.keys start (λ c. IsCorner edge.support edge.before edge.plane (spot_of c)) → Are all rest

-- it is so of all edges, if d is the draft of some of them that lacks at least one
abbrev pub IfMore : TableBuilder → (List FaceEdge → Type 0) → Type 0
IfMore d Are = (all rest : List FaceEdge) (edge : FaceEdge) → IsDraftBefore all (edge ∷ rest) d → Are all

-- it is so of all edges and of those behind the next face, if d is the draft of those before it
abbrev pub IfFace : TableBuilder → ℕ → Plane → List Plane → (List FaceEdge → List FaceEdge → Type 0) → Type 0
IfFace d face support edges Are =
    (all more : List FaceEdge) → IsDraftBefore all (edges_round face support edges ++ more) d → Are all more
