-- The file of a solid: the faces that are read back from it have the meaning, and are closed.
use Rattle.std.proofs.Common.{◌≡◌, ℕ, Bool, true, false, List, [], pos, Result, Ok, Err, refl, subst}
use Rattle.std.specs.Prelude.{if◌then◌else◌, replicate}
use Rattle.ember_meaning.specs.Closed.Chains.{IsClosedSurface}
use Rattle.ember_expr.specs.declared.fault.ExprFault.{ExprFault}
use Rattle.ember_expr.specs.Formula.{Formula}
use Rattle.ember_expr.specs.Grammar.{expr_of}
use Rattle.ember_expr.specs.Truth.{truth}
use Rattle.ember_meaning.specs.Regions.Meaning.{HaveMeaning, IsFalseOutside}
use Rattle.ember_meaning.proofs.ReadFaces.{document_reads}
use Rattle.ember_model.specs.declared.face.Face.{Face}
use Rattle.ember_model.specs.declared.scene.Scene.{Scene}
use Rattle.ember_model.specs.declared.tri.Tri.{Tri}
use Rattle.ember_model.specs.FaceFiles.{WrittenFace}
use Rattle.ember_model.specs.Meshes.{IsScene}
use Rattle.ember_meaning.specs.Regions.Solids.{IsSolidText}
use Rattle.ember_reread.proofs.OneReading.{face_file_is_read_once, one_reading}
use Rattle.ember_verdict.specs.declared.status.Status.TheVariants.{ExprRefused, Unbounded}
use Rattle.ember_verdict.specs.Outputs.{SolidFaces}
use Rattle.ember_verdict.specs.Solids.{IsSolidFile}
use Rattle.ember_verdict.specs.Verdict.{Verdict, Unknown, Refused, Writes, after_bounded, after_parse, after_bounded_expr}
use Rattle.ember_verdict.proofs.SceneVerdicts.{ExprRead}

-- ---- an expression that is given is false outside
given_bounded : (formula given : Formula) (b : Bool) → truth (replicate 64 (pos 0)) given ≡ b →
    ((next : Formula → Verdict) → (if b then Refused Unbounded else next given) ≡ next formula) → IsFalseOutside formula
given_bounded formula given true e read = absurd (clash (read (λ f. Unknown)))
  where
    clash : Refused Unbounded ≡ Unknown → ⊥
    clash q = cc
given_bounded formula given false e read =
    subst (λ (f : Formula). truth (replicate 64 (pos 0)) f ≡ false) (same (read (λ f. Writes (SolidFaces [] f)))) e
  where
    same : Writes (SolidFaces [] given) ≡ Writes (SolidFaces [] formula) → given ≡ formula
    same q = cc

false_outside : (text : List ℕ) (m : ℕ) (formula : Formula) → ExprRead (after_bounded_expr text) m formula → IsFalseOutside formula
false_outside text m formula read = by (expr_of text m) read
  where
    by : (parsed : Result Formula ExprFault) → ((next : Formula → Verdict) →
        after_parse parsed (λ f. after_bounded f (next f)) ≡ next formula) → IsFalseOutside formula
    by (Err fault) read = absurd (clash (read (λ f. Unknown)))
      where
        clash : Refused (ExprRefused fault) ≡ Unknown → ⊥
        clash q = cc
    by (Ok given) read = given_bounded formula given (truth (replicate 64 (pos 0)) given) refl read

-- ---- the file
pub document_is_output : (tris : List Tri) (meshes : ℕ) (formula : Formula) (bytes : List ℕ) → IsScene tris meshes →
    IsFalseOutside formula → IsSolidText tris formula bytes → IsSolidFile tris formula bytes
document_is_output tris meshes formula bytes scene outside is =
    let r = document_reads tris meshes formula is.kept bytes scene is.solid.written outside is.text in
    record {
      text = is;
      reads = r;
      means = λ faces f. subst (λ (faces : List Face). HaveMeaning tris formula faces) (one_reading bytes r.faces faces r.read f) r.meaning;
      closed = λ faces f. subst (λ (written : List WrittenFace). IsClosedSurface written) (face_file_is_read_once bytes r.faces faces r.read f) r.closed;
    }

-- the document of a solid is a file of it: it reads back with the meaning, and is a closed surface
pub solid_file : (text : List ℕ) (m : ℕ) (formula : Formula) (scene : Scene) (bytes : List ℕ) →
    ExprRead (after_bounded_expr text) m formula → IsSolidText scene.tris formula bytes →
    IsSolidFile scene.tris formula bytes
solid_file text m formula scene bytes read is =
    document_is_output scene.tris scene.meshes formula bytes scene.kept (false_outside text m formula read) is
