-- Texts of written regions, and face files of them
use Rattle.std.specs.Prelude.{◌≡◌, ℕ, List, ◌++◌, length, flat_map}
use Rattle.std.specs.List.{sum_by}
use Rattle.ember_algebra.specs.Relations.{Each}
use Rattle.ember_model.specs.declared.face.Face.{Face}
use Rattle.ember_model.specs.FaceFiles.{header, ending}
use Rattle.ember_leaf.specs.declared.kept.Kept.{Kept}
use Rattle.ember_text.specs.FacesTexts.{FacesText}
use Rattle.ember_text.specs.Texts.{IsTextInRange, oriented_face}

-- the face of a written region, with the front that is written. (The `written_face` of ember_verdict is
-- another map: from a
-- face as a file has it, with its corners, to the face alone. So is `face_from` of ember_meaning)
abbrev pub written_face : {W M : Type 0} → Kept W M → Face
written_face k = oriented_face k.ring k.flipped

-- the texts of these faces in order
abbrev pub AreTextsInRange : List Face → List ℕ → Type 0
AreTextsInRange fs bytes = Each IsTextInRange fs bytes

-- the texts of these faces in order, and the number of the faces
pub record IsTextOf (fs : List Face) (text : FacesText) : Type 0 where
  pub are_texts : AreTextsInRange fs text.bytes
  pub count : text.count ≡ length fs

-- texts one after another, and the number of their faces
abbrev pub joined : List FacesText → FacesText
joined texts = record { bytes = flat_map (λ t. t.bytes) texts; count = sum_by (λ t. t.count) texts }

-- the header, the text, and the last line with its number of faces
abbrev pub document_of : FacesText → List ℕ
document_of text = header ++ (text.bytes ++ ending text.count)

-- the face file of these faces: the header, their texts in order, and the last line with their number. This is
-- `IsFileText` of ember_model, and also that all numbers are in the range of a face file
pub record IsDocumentText (fs : List Face) (bytes : List ℕ) : Type 0 where
  pub texts : List ℕ
  pub are_texts : AreTextsInRange fs texts
  pub is : bytes ≡ header ++ (texts ++ ending (length fs))

-- the face file of the faces that have these texts
abbrev pub IsDocumentOf : List FacesText → List ℕ → Type 0
IsDocumentOf texts bytes = (fs : List Face) → IsTextOf fs (joined texts) → IsDocumentText fs bytes
