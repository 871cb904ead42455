-- Each output has one text.
use Rattle.std.proofs.Common.{◌≡◌, ℕ, ℤ, refl, sym, ap, ◌∙◌, subst, List, ◌++◌, map, length}
use Rattle.ember_algebra.proofs.Relations.{each_unique}
use Rattle.ember_model.specs.declared.face.Face.{Face}
use Rattle.ember_model.specs.declared.tri.Tri.{Tri}
use Rattle.ember_model.specs.FaceFiles.{header, ending}
use Rattle.ember_model.specs.Meshes.{IsScene, faces_of}
use Rattle.ember_expr.specs.Formula.{Formula}
use Rattle.ember_leaf.specs.KeptRegions.{NarrowKept as Kept}
use Rattle.ember_leaf.specs.Scenes.{IsWritten}
use Rattle.ember_leaf.proofs.WrittenRegionsUnique.{written_unique}
use Rattle.ember_pairs.specs.declared.pair.Pair.{Pair}
use Rattle.ember_pairs.specs.Pairs.{AtPair, meeting, apart}
use Rattle.ember_pairs.specs.Texts.{pairs_text}
use Rattle.ember_report.specs.Runs.{run_report}
use Rattle.ember_meaning.specs.Regions.Solids.{IsSolidText}
use Rattle.ember_report.specs.Reports.{report_line_of}
use Rattle.ember_reread.proofs.OneOutline.{text_one, texts_one}
use Rattle.ember_reread.proofs.OneReading.{one_reading}
use Rattle.ember_slice.specs.Segments.{IsSliceText}
use Rattle.ember_slice.proofs.OneAnswer as slices
use Rattle.ember_text.specs.Documents.{IsDocumentText, written_face}
use Rattle.ember_visit.specs.Jobs.{root_job}
use Rattle.ember_visit.specs.Values.{shape}
use Rattle.ember_voxel.proofs.OneText as lattices
use Rattle.ember_voxel.specs.Voxels.{cell_value}
use Rattle.ember_verdict.specs.OfScenes.{IsOfScene}
use Rattle.ember_verdict.specs.Outputs.{Output, FaceTexts, Counts, MeetingPairs, Lattice, SolidFaces, SolidReport, IsOutput}
use Rattle.ember_verdict.specs.PairLists.{IsPairsText}
use Rattle.ember_verdict.specs.Slices.{IsSlice}
use Rattle.ember_verdict.specs.Solids.{IsReportText}

-- ---- solids
document_one : (faces : List Face) (one other : List ℕ) → IsDocumentText faces one → IsDocumentText faces other → one ≡ other
document_one faces one other a b =
    a.is ∙ ap (λ texts. header ++ (texts ++ ending (length faces)))
    (each_unique (λ f xs ys x y. text_one f xs ys x.text_is y.text_is) a.are_texts b.are_texts) ∙ sym b.is

module _ (tris : List Tri) (meshes : ℕ) (scene : IsScene tris meshes) (formula : Formula) where
  kept_one : (us vs : List Kept) → IsWritten tris formula us → IsWritten tris formula vs → us ≡ vs
  kept_one us vs a b = written_unique tris formula meshes scene us vs a b

  -- a scene and an expression have one document
  pub solid_one : (one other : List ℕ) → IsSolidText tris formula one → IsSolidText tris formula other → one ≡ other
  solid_one one other a b =
      let same = kept_one a.kept b.kept a.solid.written b.solid.written in
      document_one (map written_face b.kept) one other (subst (λ (kept : List Kept). IsDocumentText (map written_face kept) one) same a.text) b.text

  -- a solid has one report
  pub report_one : (one other : List ℕ) → IsReportText tris formula one → IsReportText tris formula other → one ≡ other
  report_one one other a b =
      let same = kept_one a.kept b.kept a.solid.written b.solid.written in
      a.text ∙ ap report_line_of (a.solid.report_is
      ∙ ap (λ (kept : List Kept). run_report (shape tris formula) (root_job tris) (length kept)) same
      ∙ sym b.solid.report_is) ∙ sym b.text

-- ---- pairs
at_pair_one : (ts : List Tri) (p : Pair) (ps qs : List Pair) → AtPair ts p ps → AtPair ts p qs → ps ≡ qs
at_pair_one ts p ps qs (meeting m) (meeting n) = refl
at_pair_one ts p ps qs (meeting m) (apart n) = absurd (n m)
at_pair_one ts p ps qs (apart n) (meeting m) = absurd (n m)
at_pair_one ts p ps qs (apart n) (apart m) = refl

pairs_one : (tris : List Tri) (one other : List ℕ) → IsPairsText tris one → IsPairsText tris other → one ≡ other
pairs_one tris one other a b =
    a.2 ∙ ap pairs_text (each_unique (at_pair_one tris) a.1 b.1) ∙ sym b.2

-- ---- every output
pub output_one : (output : Output) (one other : List ℕ) → IsOfScene output → IsOutput output one → IsOutput output other → one ≡ other
output_one (FaceTexts tris) one other s a b = texts_one (faces_of tris) one other a.text b.text
output_one (Counts point meshes tris expr) one other s a b = a ∙ sym b
output_one (MeetingPairs tris) one other s a b = pairs_one tris one other a b
output_one (Lattice tris formula size) one other s a b = lattices.one_text size (cell_value tris formula size) one other a b
output_one (SolidFaces tris formula) one other s a b = solid_one tris s.0 s.1 formula one other a.text b.text
output_one (SolidReport tris formula) one other s a b = report_one tris s.0 s.1 formula one other a b

-- ---- slices
pub slice_one : (at : ℤ) (bytes one other : List ℕ) → IsSlice at bytes one → IsSlice at bytes other → one ≡ other
slice_one at bytes one other a b =
    slices.one_text b.0 at one other (subst (λ (faces : List Face). IsSliceText faces at one) (one_reading bytes a.0 b.0 a.1 b.1) a.2) b.2
