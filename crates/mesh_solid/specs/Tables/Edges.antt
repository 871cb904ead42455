-- The edges of faces, each with its neighbours
use Rattle.std.specs.Prelude.{ℕ, ◌+◌, List, [], ◌∷◌, ◌++◌, All}
use Rattle.ember_model.specs.declared.plane.Plane.{Plane}
use Rattle.ember_model.specs.declared.face.Face.{Face}
use Rattle.ember_width.specs.Broad.{IsBroadPlane}
use Rattle.mesh_solid.specs.declared.tables.face_edge.FaceEdge.{FaceEdge}

-- the first plane of the list, or p if it has none
abbrev pub first_or : Plane → List Plane → Plane
first_or p [] = p
first_or p (e ∷ es) = e

-- the last one
abbrev pub last_or : Plane → List Plane → Plane
last_or p [] = p
last_or p (e ∷ es) = last_or e es

-- an edge with its neighbours
abbrev pub face_edge : ℕ → Plane → Plane → Plane → Plane → FaceEdge
face_edge face support before plane after =
    record { face = face; support = support; before = before; plane = plane; after = after }

-- those of a face's edges that are after the edge `before`; after the last one comes the first
abbrev pub edges_behind : ℕ → Plane → Plane → Plane → List Plane → List FaceEdge
edges_behind face n first before [] = []
edges_behind face n first before (e ∷ es) =
    record { face = face; support = n; before = before; plane = e; after = first_or first es } ∷
    edges_behind face n first e es

-- all edges of a face with the plane n
abbrev pub edges_round : ℕ → Plane → List Plane → List FaceEdge
edges_round face n [] = []
edges_round face n (e ∷ es) = edges_behind face n e (last_or e es) (e ∷ es)

-- the edges of all faces, which are numbered from `face` on
abbrev pub face_edges_of : ℕ → List Face → List FaceEdge
face_edges_of face [] = []
face_edges_of face (f ∷ fs) = edges_round face f.support f.edges ++ face_edges_of (face + 1) fs

-- ---- faces of the broad grid
-- all planes of a face are planes of the broad grid
pub record IsBroadFace (f : Face) : Type 0 where
  pub support : IsBroadPlane f.support
  pub edges : All IsBroadPlane f.edges

-- and those of an edge
pub record IsBroadEdge (e : FaceEdge) : Type 0 where
  pub support : IsBroadPlane e.support
  pub before : IsBroadPlane e.before
  pub plane : IsBroadPlane e.plane
  pub after : IsBroadPlane e.after
