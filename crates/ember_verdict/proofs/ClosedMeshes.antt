-- The faces of a closed mesh are a closed surface.
use Rattle.std.proofs.Common.{subst, ℕ, List}
use Rattle.std.proofs.lemmas.List.Elements.{recursion_from_All}
use Rattle.ember_meaning.specs.Closed.Chains.{AxesAgreeOffScene, IsClosedSurface, IsOutlined}
use Rattle.ember_meaning.proofs.ClosedSurfaces.{closed_faces}
use Rattle.ember_law.proofs.Axes.{axes_agree}
use Rattle.ember_model.specs.declared.face.Face.{Face}
use Rattle.ember_model.specs.declared.tri.Tri.{Tri}
use Rattle.ember_model.specs.FaceFiles.{WrittenFace}
use Rattle.ember_model.specs.Meshes.{IsBalanced, faces_of}
use Rattle.ember_reread.proofs.OneReading.{face_file_is_read_once}
use Rattle.ember_verdict.specs.FaceTexts.{IsFaceFileOf}
use Rattle.ember_verdict.specs.Solids.{IsClosedFile}

-- the file of balanced triangles is a closed surface, however it is read
pub balanced_file_is_closed : (tris : List Tri) (bytes : List ℕ) → IsBalanced tris → IsFaceFileOf tris bytes → IsClosedFile bytes
balanced_file_is_closed tris bytes balanced o faces file =
    let r = o.reads_back in
    let agree = subst (λ (fs : List Face). AxesAgreeOffScene tris fs) r.faces (λ a b p w clear _. axes_agree a b p tris balanced w clear) in
    subst (λ (written : List WrittenFace). IsClosedSurface written)
    (face_file_is_read_once bytes (faces_of tris) faces r file)
    (closed_faces tris r.written (recursion_from_All IsOutlined r.written o.outlined) agree)
