-- Texts of written regions, region by region, and the face files of them.
use Rattle.std.proofs.Common.{◌≡◌, ℕ, ◌+◌, ◌<◌, List, [], ◌∷◌, ◌++◌, length, take, get_or, map, flat_map, sym, ap, ◌∙◌, append_assoc, subst}
use Rattle.std.proofs.lemmas.List.{append-nil, take_more, map-append}
use Rattle.std.proofs.lemmas.List.Concat.{flat_map-cons}
use Rattle.ember_leaf.specs.KeptRegions.{NarrowKept as Kept}
use Rattle.ember_leaf.specs.Written.{HasGrown}
use Rattle.ember_model.specs.declared.face.Face.{Face}
use Rattle.ember_model.specs.FaceFiles.{header, ending}
use Rattle.ember_text.specs.FacesTexts.{FacesText}
use Rattle.ember_text.specs.Texts.{Writes}
use Rattle.ember_text.specs.Documents.{AreTextsInRange, IsDocumentText, IsTextOf, document_of, joined, written_face}
use Rattle.ember_text.proofs.GrownBytes.{grown_push}

-- one more region's text
pub more_good_texts : (ks : List Kept) (i : ℕ) (d : Kept) (old : List ℕ) {mid new : List ℕ} → i < length ks →
    HasGrown (AreTextsInRange (map written_face (take i ks))) old mid → Writes (written_face (get_or ks i d)) mid new →
    HasGrown (AreTextsInRange (map written_face (take (i + 1) ks))) old new
more_good_texts ks i d old {mid} {new} l g w =
    let k = get_or ks i d in
    let e : map written_face (take (i + 1) ks) ≡ map written_face (take i ks) ++ written_face k ∷ [] =
    ap (λ (xs : List Kept). map written_face xs) (take_more ks i d l)
    ∙ map-append written_face (take i ks) (k ∷ []) in
    subst (λ (fs : List Face). HasGrown (AreTextsInRange fs) old new) (sym e)
    (grown_push (map written_face (take i ks)) (written_face k) old g
    (record { more = w.text; is = w.is; holds = w.good }))

-- the header, the texts of the faces and the last line are the document
pub file_is_document : (faces : List Face) (text : FacesText) {bytes : List ℕ} → bytes ≡ document_of text → IsTextOf faces text → IsDocumentText faces bytes
file_is_document faces text e t =
    record { texts = text.bytes; are_texts = t.are_texts; is = e ∙ ap (λ n. header ++ (text.bytes ++ ending n)) t.count }

-- ---- texts that are copied one after another
abbrev pub bytes_of : List FacesText → List ℕ
bytes_of texts = flat_map (λ (t : FacesText). t.bytes) texts

-- one more text is copied
pub one_copied : (rest left : List FacesText) (t : FacesText) (want old : List ℕ) {new : List ℕ} →
    old ++ bytes_of rest ≡ want → rest ≡ t ∷ left → new ≡ old ++ t.bytes → new ++ bytes_of left ≡ want
one_copied rest left t want old {new} inv e f =
    ap (λ (bytes : List ℕ). bytes ++ bytes_of left) f ∙ append_assoc old t.bytes (bytes_of left)
    ∙ ap (λ (bytes : List ℕ). old ++ bytes) (sym (flat_map-cons (λ (u : FacesText). u.bytes) t left)
    ∙ sym (ap bytes_of e)) ∙ inv

-- all texts are copied, and the last line is appended
pub all_copied : (rest texts : List FacesText) (count : ℕ) (old : List ℕ) {new : List ℕ} →
    old ++ bytes_of rest ≡ header ++ bytes_of texts → rest ≡ [] → count ≡ (joined texts).count →
    new ≡ old ++ ending count → new ≡ document_of (joined texts)
all_copied rest texts count old {new} inv e ec f =
    let all : old ≡ header ++ bytes_of texts = sym (append-nil old) ∙ ap (λ (ts : List FacesText). old ++ bytes_of ts) (sym e) ∙ inv in
    f ∙ (λ i. all i ++ ending (ec i)) ∙ append_assoc header (bytes_of texts) (ending (joined texts).count)
