-- The planes in the tables of a face file are valid.
use Rattle.std.proofs.Common.{ℕ, ◌+◌, List, [], ◌∷◌}
use Rattle.std.specs.List.{All}
use Rattle.std.proofs.lemmas.List.Elements.{All-append, All-cons, All-contains, All-head, All-nil, All-tail, All-weaker}
use Rattle.ember_model.specs.declared.face.Face.{Face}
use Rattle.ember_model.specs.declared.plane.Plane.{Plane}
use Rattle.ember_model.specs.Valid.{IsValidFace, IsValidPlane}
use Rattle.ember_reread.proofs.BodyTexts.{file_valid}
use Rattle.mesh_solid.specs.declared.tables.face_edge.FaceEdge.{FaceEdge}
use Rattle.mesh_solid.specs.declared.tables.tables.Tables.{Tables}
use Rattle.mesh_solid.specs.Mesh.FaceTables.{AreTablesIn}
use Rattle.mesh_solid.specs.Tables.Edges.{last_or, edges_behind, edges_round, face_edges_of}
use Rattle.mesh_solid.specs.Tables.Tables.{IsPlaneOf}

module _ (n : Plane) (v : IsValidPlane n) (face : ℕ) where
  edges_behind_have : (first before : Plane) (es : List Plane) → All (λ e. IsValidPlane e.support) (edges_behind face n first before es)
  edges_behind_have first before [] = All-nil (λ (e : FaceEdge). IsValidPlane e.support)
  edges_behind_have first before (e ∷ es) =
      All-cons (λ (e : FaceEdge). IsValidPlane e.support) _ (edges_behind face n first e es) v (edges_behind_have first e es)

  edges_round_have : (es : List Plane) → All (λ e. IsValidPlane e.support) (edges_round face n es)
  edges_round_have [] = All-nil (λ (e : FaceEdge). IsValidPlane e.support)
  edges_round_have (e ∷ es) = edges_behind_have e (last_or e es) (e ∷ es)

edges_have : (face : ℕ) (fs : List Face) → All IsValidFace fs → All (λ e. IsValidPlane e.support) (face_edges_of face fs)
edges_have face [] h = All-nil (λ (e : FaceEdge). IsValidPlane e.support)
edges_have face (f ∷ fs) h =
    All-append (λ (e : FaceEdge). IsValidPlane e.support) (edges_round face f.support f.edges) (face_edges_of (face + 1) fs)
    (edges_round_have f.support (All-head IsValidFace f fs h).support face f.edges) (edges_have (face + 1) fs (All-tail IsValidFace f fs h))

-- the planes of valid faces are valid
planes_are_valid : (fs : List Face) (ps : List Plane) → All IsValidFace fs → All (IsPlaneOf (face_edges_of 0 fs)) ps → All IsValidPlane ps
planes_are_valid fs ps h used =
    All-weaker (IsPlaneOf (face_edges_of 0 fs)) IsValidPlane
    (λ p is. is.valid (All-contains (λ (e : FaceEdge). IsValidPlane e.support) (face_edges_of 0 fs) is.edge (edges_have 0 fs h) is.one)) ps used

pub tables_in_are_valid : (bytes : List ℕ) (tables : Tables) → AreTablesIn bytes tables → All IsValidPlane tables.planes.items
tables_in_are_valid bytes tables is = planes_are_valid is.faces tables.planes.items (file_valid is.read) is.are_tables.used
