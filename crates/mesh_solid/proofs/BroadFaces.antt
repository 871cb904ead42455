-- Faces whose planes are those of the broad grid: valid faces, and those of outlines there.
use Rattle.std.proofs.Common.{List, [], ◌∷◌, map, sym, subst}
use Rattle.std.specs.List.{All, AllByRecursion}
use Rattle.std.proofs.lemmas.List.Elements.{All-weaker, All-cons, All-nil}
use Rattle.ember_expr.specs.Formula.{Formula}
use Rattle.ember_model.specs.declared.face.Face.{Face}
use Rattle.ember_model.specs.declared.tri.Tri.{Tri}
use Rattle.ember_model.specs.Edges.{RingEdge}
use Rattle.ember_model.specs.Valid.{IsValidFace, IsValidPlane}
use Rattle.ember_poly.specs.Outlines.{face_of_edges}
use Rattle.ember_query.specs.BroadLeaves.{broad_numbers, AreBroadSceneOutlines}
use Rattle.ember_text.specs.Documents.{written_face}
use Rattle.ember_text.specs.OutlineFaces.{AreOutlineFaces, IsEdgeOf}
use Rattle.ember_width.specs.Broad.{IsBroadPlane}
use Rattle.ember_width.specs.Laws.{narrow_is_broad}
use Rattle.mesh_solid.specs.Tables.Edges.{IsBroadFace}

-- valid faces are faces of the broad grid
pub valid_faces_are_broad : (fs : List Face) → All IsValidFace fs → All IsBroadFace fs
valid_faces_are_broad fs h =
    All-weaker IsValidFace IsBroadFace (λ f v. record {
      support = narrow_is_broad f.support v.support;
      edges = All-weaker IsValidPlane IsBroadPlane narrow_is_broad f.edges v.edges;
    }) fs h

-- ---- outlines
outlines_have_broad_planes : (es : List RingEdge) → AllByRecursion (IsEdgeOf broad_numbers) es →
    All IsBroadPlane (map (λ (e : RingEdge). e.plane) es)
outlines_have_broad_planes [] h = All-nil IsBroadPlane
outlines_have_broad_planes (e ∷ es) h =
    All-cons IsBroadPlane e.plane (map (λ (e : RingEdge). e.plane) es) h.0.plane (outlines_have_broad_planes es h.1)

outlined_faces_are_broad : (fs gs : List Face) → AreOutlineFaces broad_numbers fs gs → All IsBroadFace gs
outlined_faces_are_broad [] [] a = All-nil IsBroadFace
outlined_faces_are_broad [] (g ∷ gs) a = absurd a
outlined_faces_are_broad (f ∷ fs) [] a = absurd a
outlined_faces_are_broad (f ∷ fs) (g ∷ gs) a =
    let one = a.0 in
    let face : IsBroadFace (face_of_edges f.support one.outline) =
    record { support = one.support; edges = outlines_have_broad_planes one.outline one.edges } in
    All-cons IsBroadFace g gs (subst IsBroadFace (sym one.is) face) (outlined_faces_are_broad fs gs a.1)

-- the faces of a scene's outlines are faces of the broad grid
pub scene_outlines_are_broad : (tris : List Tri) (formula : Formula) (faces : List Face) →
    AreBroadSceneOutlines tris formula faces → All IsBroadFace faces
scene_outlines_are_broad tris formula faces o = outlined_faces_are_broad (map written_face o.kept) faces o.faces_of
