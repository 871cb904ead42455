-- Texts of written regions
use Rattle.std.proofs.Common.{◌≡◌, ◌∙◌, ℕ, List, map, sym, subst}
use Rattle.ember_algebra.proofs.Relations.{each_unique}
use Rattle.ember_box.specs.Boxes.{Cell}
use Rattle.ember_box.specs.Near.{near}
use Rattle.ember_expr.specs.Formula.{Formula}
use Rattle.ember_job.specs.declared.job.Job.{Job}
use Rattle.ember_job.specs.declared.job.Outcome.{Outcome}
use Rattle.ember_job.specs.Items.{EachAnswers}
use Rattle.ember_job.specs.Visited.{leaves}
use Rattle.ember_job.specs.Works.{Answers}
use Rattle.ember_leaf.specs.KeptRegions.{NarrowKept as Kept}
use Rattle.ember_leaf.specs.Written.{IsWrittenIn}
use Rattle.ember_leaf.specs.Scenes.{IsWritten}
use Rattle.ember_model.specs.declared.face.Face.{Face}
use Rattle.ember_model.specs.declared.tri.Tri.{Tri}
use Rattle.ember_reread.proofs.OneOutline.{text_one}
use Rattle.ember_text.specs.FacesTexts.{FacesText}
use Rattle.ember_text.specs.Documents.{IsTextOf, joined, written_face}
use Rattle.ember_text.specs.Texts.{IsTextInRange}
use Rattle.ember_visit.specs.Jobs.{root_job}
use Rattle.ember_visit.specs.Values.{shape}

-- the text of some list of regions with the property
pub record IsRegionsText (Has : List Kept → Type 0) (text : FacesText) : Type 0 where
  pub kept : List Kept
  pub has : Has kept
  pub text_of : IsTextOf (map written_face kept) text

-- the text of what is written in a box
abbrev pub IsBoxText : List Tri → Formula → Cell → FacesText → Type 0
IsBoxText tris formula c text = IsRegionsText (IsWrittenIn tris formula c (near tris c)) text

-- what becomes of a job, with the text of what is written for a leaf
abbrev pub AnswersByText : List Tri → Formula → Job → Outcome FacesText → Type 0
AnswersByText tris formula job outcome =
    Answers (shape tris formula) (λ job text. IsBoxText tris formula job.cell text) job outcome

-- the texts of the visited leaves, in tree order
abbrev pub AreLeafTexts : List Tri → Formula → List FacesText → Type 0
AreLeafTexts tris formula texts =
    EachAnswers (λ job text. IsBoxText tris formula job.cell text) (leaves (shape tris formula) (root_job tris)) texts

-- the text of what is written of a scene
abbrev pub IsSceneText : List Tri → Formula → FacesText → Type 0
IsSceneText tris formula text = IsRegionsText (IsWritten tris formula) text

-- the texts of the visited leaves, one after another, are that of the scene
abbrev pub LeafTextsJoin : List Tri → Formula → Type 0
LeafTextsJoin tris formula =
    (texts : List FacesText) → AreLeafTexts tris formula texts → IsSceneText tris formula (joined texts)

-- ---- lemmas, which stand here because the ghost member `one_item` of `TextWork` (src/text.rt) cites `one_text`
-- faces have one text
good_one : (f : Face) (xs ys : List ℕ) → IsTextInRange f xs → IsTextInRange f ys → xs ≡ ys
good_one f xs ys a b = text_one f xs ys a.text_is b.text_is

faces_one : (fs : List Face) (s t : FacesText) → IsTextOf fs s → IsTextOf fs t → s ≡ t
faces_one fs s t a b =
    λ i. record { bytes = each_unique good_one a.are_texts b.are_texts i; count = (a.count ∙ sym b.count) i }

-- so regions have one text, if one list has the property
pub one_text : {Has : List Kept → Type 0} {s t : FacesText} → ((xs ys : List Kept) → Has xs → Has ys → xs ≡ ys) →
    IsRegionsText Has s → IsRegionsText Has t → s ≡ t
one_text {s = s} {t = t} one a b =
    faces_one (map written_face b.kept) s t (subst (λ (ks : List Kept). IsTextOf (map written_face ks) s)
    (one a.kept b.kept a.has b.has) a.text_of) b.text_of
