-- Faces of a list of triangles, one triangle more.
use Rattle.std.proofs.Common.{◌≡◌, ℕ, ◌+◌, ◌<◌, ◌≤◌, Bool, true, false, not, List, [], ◌∷◌, ◌++◌, length, take, get_or}
use Rattle.std.proofs.Common.{map, filter, refl, sym, ap, ◌∙◌, append_assoc, length-append, subst, None, Some}
use Rattle.std.proofs.Common.{if◌then◌else◌}
use Rattle.std.proofs.lemmas.List.{take_all, take_more, append-nil, length-map}
use Rattle.ember_algebra.specs.Relations.{Each, none, more}
use Rattle.ember_algebra.proofs.Relations.{each_append}
use Rattle.ember_model.specs.declared.tri.Tri.{Tri}
use Rattle.ember_model.specs.declared.face.Face.{Face}
use Rattle.ember_model.specs.Faces.{is_flat, face_of}
use Rattle.ember_model.specs.Meshes.{faces_of}
use Rattle.ember_model.specs.FaceFiles.{IsFaceText, IsFileText, header, ending}
use Rattle.ember_text.specs.Texts.{Writes, IsTextInRange}
use Rattle.ember_verdict.specs.FaceTexts.{AddsFace, HasTexts, IsFaceFileOf, ReadsBack, written_face}
use Rattle.ember_verdict.proofs.ReadBack.{nothing_back, triangle_back, join_back}

faces_of-append : (ts us : List Tri) → faces_of (ts ++ us) ≡ faces_of ts ++ faces_of us
faces_of-append [] us = refl
faces_of-append (t ∷ ts) us = by (is_flat t) (faces_of-append ts us)
  where
    by : (b : Bool) → faces_of (ts ++ us) ≡ faces_of ts ++ faces_of us →
        map face_of (if not b then t ∷ filter (λ t. not (is_flat t)) (ts ++ us) else filter (λ t. not (is_flat t))
        (ts ++ us)) ≡ map face_of (if not b then t
        ∷ filter (λ t. not (is_flat t)) ts else filter (λ t. not (is_flat t)) ts) ++ faces_of us
    by true e = e
    by false e = ap (λ (fs : List Face). face_of t ∷ fs) e

-- the header is the text of no faces
pub no_texts : HasTexts [] header 0
no_texts = record { texts = []; are_texts = none; read_back = nothing_back; is = refl; count_is = refl }

-- one more triangle's face
pub more_texts : (ts : List Tri) (i : ℕ) (d : Tri) (added : ℕ) (old new : List ℕ) (count : ℕ) → i < length ts →
    HasTexts (take i ts) old count → AddsFace (get_or ts i d) added old new →
    HasTexts (take (i + 1) ts) new (count + added)
more_texts ts i d added old new count l h a =
    let t = get_or ts i d in
    let e : faces_of (take (i + 1) ts) ≡ faces_of (take i ts) ++ faces_of (t ∷ []) = ap faces_of (take_more ts i d l) ∙ faces_of-append (take i ts) (t ∷ []) in
    record {
      texts = h.texts ++ a.text;
      are_texts = subst (λ (fs : List Face). Each IsFaceText fs (h.texts ++ a.text)) (sym e) (each_append h.are_texts a.is_text);
      read_back = subst (λ (fs : List Face). ReadsBack fs (h.texts ++ a.text)) (sym e) (join_back h.read_back a.reads_back);
      is = a.is ∙ ap (λ (bytes : List ℕ). bytes ++ a.text) h.is ∙ append_assoc header h.texts a.text;
      count_is = ap length e ∙ length-append (faces_of (take i ts)) (faces_of (t ∷ [])) ∙ (λ i. h.count_is i + a.count_is i);
    }

all_texts : (ts : List Tri) (bytes : List ℕ) (count : ℕ) → HasTexts ts bytes count → IsFileText (faces_of ts) (bytes ++ ending count)
all_texts ts bytes count h =
    record {
      texts = h.texts;
      are_texts = h.are_texts;
      is = ap (λ (front : List ℕ). front ++ ending count) h.is ∙ append_assoc header h.texts (ending count)
          ∙ ap (λ (n : ℕ). header ++ (h.texts ++ ending n)) (sym h.count_is);
    }

ended : (ts : List Tri) (bytes : List ℕ) (count : ℕ) → HasTexts ts bytes count → IsFaceFileOf ts (bytes ++ ending count)
ended ts bytes count h =
    let r = h.read_back in
    let number : count ≡ length r.written = sym h.count_is ∙ ap (λ (fs : List Face). length fs) r.faces ∙ length-map r.written written_face in
    record {
      text = all_texts ts bytes count h;
      reads_back = record {
        written = r.written;
        well_formed = r.well_formed;
        is =
            (λ i. h.is i ++ ending (number i)) ∙ ap (λ (x : List ℕ). header ++ x ++ ending (length r.written)) r.is;
        faces =
            r.faces;
      };
      outlined = r.outlined;
    }

-- after the last triangle, the last line makes the text a face file
pub face_file : (ts : List Tri) (i : ℕ) (bytes file : List ℕ) (count : ℕ) → length ts ≤ i →
    HasTexts (take i ts) bytes count → file ≡ bytes ++ ending count → IsFaceFileOf ts file
face_file ts i bytes file count l h e =
    subst (λ (file : List ℕ). IsFaceFileOf ts file) (sym e) (ended ts bytes count (subst (λ (ts : List Tri). HasTexts ts bytes count) (take_all i ts l) h))

-- ---- one triangle
none_flat : (b : Bool) (f : Face) → None ≡ (if b then None else Some f) → b ≡ true
none_flat true f e = refl
none_flat false f e = cc

some_round : (b : Bool) (f r : Face) → Some r ≡ (if b then None else Some f) → (b ≡ false) × (r ≡ f)
some_round true f r e = cc
some_round false f r e = (refl, cc)

-- a flat triangle adds nothing
pub flat_adds : (t : Tri) (bytes : List ℕ) → None ≡ (if is_flat t then None else Some (face_of t)) → AddsFace t 0 bytes bytes
flat_adds t bytes e =
    let b = none_flat (is_flat t) (face_of t) e in
    record { text = []; is_text = rw b none; reads_back = rw b nothing_back; is = sym (append-nil bytes); count_is = rw b refl }

-- any other triangle adds its face
pub face_adds : (t : Tri) (r : Face) (old new : List ℕ) → Some r ≡ (if is_flat t then None else Some (face_of t)) → Writes r old new → AddsFace t 1 old new
face_adds t r old new e w =
    let b = some_round (is_flat t) (face_of t) r e in
    let text : IsFaceText (face_of t) w.text = subst (λ (f : Face). IsFaceText f w.text) b.1 w.good.text_is in
    record {
      text = w.text;
      is_text = rw b.0 (subst (λ (bytes : List ℕ). Each IsFaceText (face_of t ∷ []) bytes) (append-nil w.text) (more text none));
      reads_back = rw b.0 (triangle_back t w.text b.0 (subst (λ (f : Face). IsTextInRange f w.text) b.1 w.good));
      is = w.is;
      count_is = rw b.0 refl;
    }
