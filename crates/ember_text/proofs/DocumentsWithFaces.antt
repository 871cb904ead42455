-- Faces have a document, and the faces in their texts are those that it holds.
use Rattle.std.proofs.Common.{◌≡◌, ℕ, suc, refl, sym, ap, ◌∙◌, List, [], ◌∷◌, ◌++◌, length, map, flat_map, All}
use Rattle.std.proofs.lemmas.List.Concat.{flat_map-cons}
use Rattle.std.proofs.lemmas.List.Elements.{All-cons, All-nil}
use Rattle.ember_algebra.specs.Relations.{none, more}
use Rattle.ember_model.specs.declared.face.Face.{Face}
use Rattle.ember_model.specs.FaceFiles.{WrittenFace, IsWrittenFace, IsFaceFile, header, ending, written_lines}
use Rattle.ember_poly.specs.Outlines.{face_of_edges}
use Rattle.ember_text.specs.Documents.{AreTextsInRange, IsDocumentText}
use Rattle.ember_text.specs.FacesInTexts.{AreFacesInTexts}

abbrev face_in : WrittenFace → Face
face_in w = face_of_edges w.support w.edges

-- the texts of the faces fs are the lines of written faces, which give the faces gs
record HaveTexts (fs gs : List Face) : Type 0 where
  texts : List ℕ
  are_texts : AreTextsInRange fs texts
  written : List WrittenFace
  well_formed : All IsWrittenFace written
  is : texts ≡ flat_map written_lines written
  count : length fs ≡ length written
  faces : gs ≡ map face_in written

have_texts : (fs gs : List Face) → AreFacesInTexts fs gs → HaveTexts fs gs
have_texts [] [] h = record { texts = []; are_texts = none; written = []; well_formed = All-nil IsWrittenFace; is = refl; count = refl; faces = refl }
have_texts [] (g ∷ gs) h = absurd h
have_texts (f ∷ fs) [] h = absurd h
have_texts (f ∷ fs) (g ∷ gs) h =
    let one = h.0 in let rest = have_texts fs gs h.1 in
    let w : WrittenFace = record { support = f.support; edges = one.is_text.text_is.outline } in
    record {
      texts = one.text ++ rest.texts;
      are_texts = more one.is_text rest.are_texts;
      written = w ∷ rest.written;
      well_formed = All-cons IsWrittenFace w rest.written one.is_text.written rest.well_formed;
      is = (λ i. one.is_text.text_is.is i ++ rest.is i) ∙ sym (flat_map-cons written_lines w rest.written);
      count = ap (λ n. suc n) rest.count;
      faces = λ i. one.is i ∷ rest.faces i;
    }

-- the bytes are a document of the faces fs, and hold the faces gs
pub record HaveDocument (fs gs : List Face) : Type 0 where
  pub bytes : List ℕ
  pub document : IsDocumentText fs bytes
  pub read : IsFaceFile bytes gs

-- faces have a document that holds the faces in their texts
pub faces_have_document : (fs gs : List Face) → AreFacesInTexts fs gs → HaveDocument fs gs
faces_have_document fs gs h =
    let t = have_texts fs gs h in
    record {
      bytes = header ++ (t.texts ++ ending (length fs));
      document = record { texts = t.texts; are_texts = t.are_texts; is = refl };
      read = record { written = t.written; well_formed = t.well_formed; is = λ i. header ++ (t.is i ++ ending (t.count i)); faces = t.faces };
    }
