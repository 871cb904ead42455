-- The document of a solid is a face file, so it is read.
use Rattle.std.proofs.Common.{◌≡◌, ◌⊎◌, inl, inr, ℕ, suc, refl, sym, ap, ◌∙◌, List, [], ◌∷◌, ◌++◌, length, map, flat_map}
use Rattle.std.specs.List.{All}
use Rattle.std.proofs.lemmas.List.Concat.{flat_map-cons}
use Rattle.std.proofs.lemmas.List.Elements.{All-cons, All-nil}
use Rattle.ember_algebra.specs.Relations.{Each, none, more}
use Rattle.ember_meaning.specs.Closed.Chains.{face_from}
use Rattle.ember_expr.specs.Formula.{Formula}
use Rattle.ember_model.specs.declared.face.Face.{Face}
use Rattle.ember_model.specs.declared.tri.Tri.{Tri}
use Rattle.ember_model.specs.FaceFiles.{WrittenFace, IsWrittenFace, IsFaceFile, header, ending, written_lines}
use Rattle.ember_meaning.specs.Regions.Solids.{IsSolidText}
use Rattle.ember_reread.specs.declared.fault.RereadFault.{RereadFault}
use Rattle.ember_reread.specs.declared.fault.RereadFault.TheVariants.{Form, OutOfMemory}
use Rattle.ember_text.specs.Documents.{IsDocumentText, written_face}
use Rattle.ember_text.specs.Texts.{IsTextInRange}
use Rattle.mesh_solid.specs.Mesh.FaceTables.{HoldsFaces}

-- the texts are the lines of so many written faces
record AreLines (count : ℕ) (texts : List ℕ) : Type 0 where
  written : List WrittenFace
  well_formed : All IsWrittenFace written
  is : texts ≡ flat_map written_lines written
  count_is : count ≡ length written

texts_are_lines : (fs : List Face) {texts : List ℕ} → Each IsTextInRange fs texts → AreLines (length fs) texts
texts_are_lines [] none = record { written = []; well_formed = All-nil IsWrittenFace; is = refl; count_is = refl }
texts_are_lines (f ∷ fs) (more {ys = ys} {zs = zs} t ts) =
    let s = texts_are_lines fs ts in
    let w : WrittenFace = record { support = f.support; edges = t.text_is.outline } in
    record {
      written = w ∷ s.written;
      well_formed = All-cons IsWrittenFace w s.written t.written s.well_formed;
      is = (λ i. t.text_is.is i ++ s.is i) ∙ sym (flat_map-cons written_lines w s.written);
      count_is = ap (λ n. suc n) s.count_is;
    }

document_holds_faces : (fs : List Face) (bytes : List ℕ) → IsDocumentText fs bytes → HoldsFaces bytes
document_holds_faces fs bytes d =
    let s = texts_are_lines fs d.are_texts in (
      map face_from s.written,
      record {
        written = s.written;
        well_formed = s.well_formed;
        is = d.is ∙ (λ i. header ++ (s.is i ++ ending (s.count_is i)));
        faces = refl;
      },
    )

-- the document of a solid holds faces
pub solid_holds_faces : (tris : List Tri) (formula : Formula) (bytes : List ℕ) → IsSolidText tris formula bytes → HoldsFaces bytes
solid_holds_faces tris formula bytes is = document_holds_faces (map written_face is.kept) bytes is.text

-- a face file isn't refused for its form
pub never_refused : (file : List ℕ) (fault : RereadFault) → HoldsFaces file → fault ≡ Form →
    (fault ≡ OutOfMemory) ⊎ ((fs : List Face) → IsFaceFile file fs → ⊥) → ⊥
never_refused file fault held form (inl memory) = clash (sym form ∙ memory)
  where
    clash : Form ≡ OutOfMemory → ⊥
    clash q = cc
never_refused file fault held form (inr refused) = refused held.0 held.1
