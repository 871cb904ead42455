-- Faces of written regions in memory
use Rattle.std.proofs.Common.{◌≡◌, ◌∙◌, List, [], ◌∷◌, map, flat_map, refl, sym, ap, ap₂, subst}
use Rattle.ember_box.specs.Boxes.{Cell}
use Rattle.ember_box.specs.Near.{near}
use Rattle.ember_expr.specs.Formula.{Formula}
use Rattle.ember_job.specs.declared.job.Job.{Job}
use Rattle.ember_job.specs.declared.job.Outcome.{Outcome}
use Rattle.ember_job.specs.Items.{EachAnswers}
use Rattle.ember_job.specs.Visited.{leaves}
use Rattle.ember_job.specs.Works.{Answers}
use Rattle.ember_leaf.specs.KeptRegions.{NarrowKept as Kept}
use Rattle.ember_leaf.specs.Written.{IsWrittenIn}
use Rattle.ember_leaf.specs.Scenes.{IsWritten}
use Rattle.ember_model.specs.declared.face.Face.{Face}
use Rattle.ember_model.specs.declared.tri.Tri.{Tri}
use Rattle.ember_poly.specs.Outlines.{face_of_edges}
use Rattle.ember_reread.proofs.OneOutline.{outline_one}
use Rattle.ember_text.specs.Documents.{written_face}
use Rattle.ember_text.specs.FacesInTexts.{AreFacesInTexts, IsFaceInText}
use Rattle.ember_visit.specs.Jobs.{root_job}
use Rattle.ember_visit.specs.Values.{shape}

-- the faces that the text of some list of regions with the property holds
pub record AreRegionsFaces (Has : List Kept → Type 0) (faces : List Face) : Type 0 where
  pub kept : List Kept
  pub has : Has kept
  pub faces_of : AreFacesInTexts (map written_face kept) faces

-- the faces of what is written in a box
abbrev pub AreBoxFaces : List Tri → Formula → Cell → List Face → Type 0
AreBoxFaces tris formula c faces = AreRegionsFaces (IsWrittenIn tris formula c (near tris c)) faces

-- what becomes of a job, with the faces of what is written for a leaf
abbrev pub AnswersByFaces : List Tri → Formula → Job → Outcome (List Face) → Type 0
AnswersByFaces tris formula job outcome =
    Answers (shape tris formula) (λ job faces. AreBoxFaces tris formula job.cell faces) job outcome

-- the lists of faces of the visited leaves, in tree order
abbrev pub AreLeafFaces : List Tri → Formula → List (List Face) → Type 0
AreLeafFaces tris formula lists =
    EachAnswers (λ job faces. AreBoxFaces tris formula job.cell faces) (leaves (shape tris formula) (root_job tris))
    lists

-- the faces of what is written of a scene
abbrev pub AreSceneFaces : List Tri → Formula → List Face → Type 0
AreSceneFaces tris formula faces = AreRegionsFaces (IsWritten tris formula) faces

-- the faces of the visited leaves, one list after another, are those of the scene
abbrev pub LeafFacesJoin : List Tri → Formula → Type 0
LeafFacesJoin tris formula =
    (lists : List (List Face)) → AreLeafFaces tris formula lists →
    AreSceneFaces tris formula (flat_map (λ faces. faces) lists)

-- ---- lemmas, which stand here because the ghost member `one_item` of `FaceWork` (src/faces.rt) cites `one_list`
-- the text of a face holds one face
face_one : (f g h : Face) → IsFaceInText f g → IsFaceInText f h → g ≡ h
face_one f g h a b =
    let x = a.is_text.text_is in let y = b.is_text.text_is in
    a.is ∙
    ap (face_of_edges f.support) (outline_one f x.outline y.outline x.is_outline y.is_outline x.lowest y.lowest) ∙
    sym b.is

faces_one : (fs gs hs : List Face) → AreFacesInTexts fs gs → AreFacesInTexts fs hs → gs ≡ hs
faces_one [] [] [] a b = refl
faces_one [] [] (h ∷ hs) a b = absurd b
faces_one [] (g ∷ gs) hs a b = absurd a
faces_one (f ∷ fs) [] hs a b = absurd a
faces_one (f ∷ fs) (g ∷ gs) [] a b = absurd b
faces_one (f ∷ fs) (g ∷ gs) (h ∷ hs) a b =
    ap₂ (λ x xs. x ∷ xs) (face_one f g h a.0 b.0) (faces_one fs gs hs a.1 b.1)

-- so regions have one list of faces, if one list has the property
pub one_list : {Has : List Kept → Type 0} {gs hs : List Face} → ((xs ys : List Kept) → Has xs → Has ys → xs ≡ ys) →
    AreRegionsFaces Has gs → AreRegionsFaces Has hs → gs ≡ hs
one_list {gs = gs} {hs = hs} one a b =
    faces_one (map written_face b.kept) gs hs (subst (λ (ks : List Kept). AreFacesInTexts (map written_face ks) gs)
    (one a.kept b.kept a.has b.has) a.faces_of) b.faces_of
