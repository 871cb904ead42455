-- Faces of triangles, read back from their lines.
use Rattle.std.proofs.Common.{◌≡◌, ℕ, false, List, [], ◌∷◌, ◌++◌, refl, sym, ◌∙◌}
use Rattle.std.proofs.lemmas.List.{append-nil, map-append}
use Rattle.std.proofs.lemmas.List.Concat.{flat_map-cons}
use Rattle.std.proofs.lemmas.List.Elements.{All-append, All-cons, All-nil}
use Rattle.std.proofs.lemmas.Grind.{flat_map-append}
use Rattle.ember_meaning.specs.Closed.Chains.{IsOutlined}
use Rattle.ember_leaf.proofs.TriFaces.{has_inside}
use Rattle.ember_model.specs.declared.tri.Tri.{Tri}
use Rattle.ember_model.specs.declared.face.Face.{Face}
use Rattle.ember_model.specs.Planes.{support_of}
use Rattle.ember_model.specs.Faces.{is_flat, face_of}
use Rattle.ember_model.specs.FaceFiles.{WrittenFace, IsWrittenFace, written_lines}
use Rattle.ember_poly.proofs.OwnOutline.{outline_is_its_own}
use Rattle.ember_poly.proofs.TriangleOutline.{triangle_outline}
use Rattle.ember_text.specs.Texts.{IsTextInRange}
use Rattle.ember_verdict.specs.FaceTexts.{ReadsBack, written_face}

-- no faces are read back from no text
pub nothing_back : ReadsBack [] []
nothing_back = record { written = []; well_formed = All-nil IsWrittenFace; is = refl; faces = refl; outlined = All-nil IsOutlined }

-- the text of a triangle's face reads back as the face
pub triangle_back : (t : Tri) (text : List ℕ) → is_flat t ≡ false → IsTextInRange (face_of t) text → ReadsBack (face_of t ∷ []) text
unfolding face_of
triangle_back t text e g =
    let w : WrittenFace = record { support = support_of t; edges = g.text_is.outline } in
    let q = triangle_outline t g.text_is.outline e g.text_is.is_outline in
    record {
      written = w ∷ [];
      well_formed = All-cons IsWrittenFace w [] g.written (All-nil IsWrittenFace);
      is = g.text_is.is ∙ sym (append-nil (written_lines w)) ∙ sym (flat_map-cons written_lines w []);
      faces = λ i. record { support = support_of t; edges = sym q i } ∷ [];
      outlined = All-cons IsOutlined w [] (outline_is_its_own (face_of t) g.text_is.outline (has_inside t e) g.text_is.is_outline) (All-nil IsOutlined);
    }

-- texts that read back can be joined
pub join_back : {fs gs : List Face} {x y : List ℕ} → ReadsBack fs x → ReadsBack gs y → ReadsBack (fs ++ gs) (x ++ y)
join_back p q =
    record {
      written = p.written ++ q.written;
      well_formed = All-append IsWrittenFace p.written q.written p.well_formed q.well_formed;
      is = (λ i. p.is i ++ q.is i) ∙ sym (flat_map-append written_lines p.written q.written);
      faces = (λ i. p.faces i ++ q.faces i) ∙ sym (map-append written_face p.written q.written);
      outlined = All-append IsOutlined p.written q.written p.outlined q.outlined;
    }
