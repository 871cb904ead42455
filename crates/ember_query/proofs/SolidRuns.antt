-- A run gives the solid and its report.
use Rattle.std.proofs.Common.{◌≡◌, ◌<◌, ◌^◌, ℕ, List, flat_map, length, refl, ap, ◌∙◌}
use Rattle.std.specs.Prelude.{map}
use Rattle.ember_expr.specs.Formula.{Formula}
use Rattle.ember_job.specs.Visited.{leaves}
use Rattle.ember_leaf.specs.Scenes.{IsWritten}
use Rattle.ember_algebra.specs.Relations.{Each}
use Rattle.ember_query.proofs.Counts.{are_counted, all_counted}
use Rattle.ember_query.proofs.KeptLists.{all_given}
use Rattle.ember_model.specs.declared.tri.Tri.{Tri}
use Rattle.ember_report.specs.declared.report.Report.{Report}
use Rattle.ember_visit.specs.Jobs.{root_job}
use Rattle.ember_job.specs.declared.job.Entry.{Entry}
use Rattle.ember_report.specs.Reports.{report_from}
use Rattle.ember_visit.specs.Values.{shape}
use Rattle.std.specs.List.{sum, sum_by}
use Rattle.ember_report.specs.Runs.{AreJournalsOf, run_report}
use Rattle.ember_query.proofs.Reports.{entries_fit, same_report}
use Rattle.ember_step.specs.Texts.{AreLeafTexts, IsSceneText, LeafTextsJoin}
use Rattle.ember_text.specs.FacesTexts.{FacesText}
use Rattle.ember_model.specs.declared.face.Face.{Face}
use Rattle.std.proofs.lemmas.List.{length-map}
use Rattle.ember_query.specs.Leaves.{AreRegionCounts, IsWrittenAt}
use Rattle.ember_meaning.specs.Regions.Solids.{AreJournalsOfSolid, IsSolid, IsSolidReport, IsSolidText}
use Rattle.ember_leaf.specs.KeptRegions.{NarrowKept as Kept}
use Rattle.ember_text.specs.Documents.{IsDocumentText, IsTextOf, joined, written_face}

-- ---- the run
pub journals_fit : (tris : List Tri) (formula : Formula) (journals : List (List Entry)) →
    AreJournalsOf (shape tris formula) (root_job tris) journals → sum_by length journals < 2 ^ 64
journals_fit tris formula journals holds = entries_fit (shape tris formula) (root_job tris) journals refl holds

pub of_run : (tris : List Tri) (formula : Formula) (journals : List (List Entry)) (faces count : ℕ) (report : Report) →
    AreJournalsOfSolid tris formula journals → report ≡ report_from journals faces → faces ≡ count →
    report ≡ run_report (shape tris formula) (root_job tris) count
of_run tris formula journals faces count report holds e f =
    e ∙ same_report (shape tris formula) (root_job tris) journals faces holds ∙ ap (run_report (shape tris formula) (root_job tris)) f

-- the visited leaves write what the scene does
abbrev pub VisitedWriteAll : List Tri → Formula → Type 0
VisitedWriteAll tris formula =
    (kept : List Kept) → Each (IsWrittenAt tris formula) (leaves (shape tris formula) (root_job tris)) kept → IsWritten tris formula kept

-- the counts of the leaves give the solid's report
pub is_solid_report : (tris : List Tri) (formula : Formula) (counts : List ℕ) (journals : List (List Entry)) (faces : ℕ)
    (report : Report) → VisitedWriteAll tris formula → AreRegionCounts tris formula counts →
    AreJournalsOfSolid tris formula journals → report ≡ report_from journals faces → faces ≡ sum counts →
    IsSolidReport tris formula report
is_solid_report tris formula counts journals faces report law are holds e f =
    let jobs = leaves (shape tris formula) (root_job tris) in
    let lists = are_counted (IsWrittenAt tris formula) jobs counts are in
    let kept = flat_map (λ ks. ks) lists.items in
    record {
      kept = kept;
      solid = record {
        written = law kept (all_given (IsWrittenAt tris formula) jobs lists.items lists.answer);
        report_is = of_run tris formula journals faces (length kept) report holds e (f ∙ all_counted counts lists.items lists.lengths);
      };
    }

-- ---- the texts of the leaves
scene_solid : (tris : List Tri) (formula : Formula) (text : FacesText) (journals : List (List Entry)) (faces : ℕ)
    (report : Report) → AreJournalsOfSolid tris formula journals → report ≡ report_from journals faces →
    faces ≡ text.count → (is : IsSceneText tris formula text) → IsSolid tris formula is.kept report
scene_solid tris formula text journals faces report holds e f is = record {
  written = is.has;
  report_is = of_run tris formula journals faces (length is.kept) report holds e (f ∙ is.text_of.count ∙ length-map is.kept written_face);
}

-- the texts of the leaves give the solid's document
pub solid_text_of : (tris : List Tri) (formula : Formula) (texts : List FacesText) (journals : List (List Entry))
    (faces : ℕ) (report : Report) (bytes : List ℕ) → LeafTextsJoin tris formula → AreLeafTexts tris formula texts →
    AreJournalsOfSolid tris formula journals → report ≡ report_from journals faces → faces ≡ (joined texts).count →
    ((fs : List Face) → IsTextOf fs (joined texts) → IsDocumentText fs bytes) → IsSolidText tris formula bytes
solid_text_of tris formula texts journals faces report bytes law are holds e f file =
    let is = law texts are in
    record {
      kept = is.kept;
      report = report;
      solid =
          scene_solid tris formula (joined texts) journals faces report holds e f is;
      text =
          file (map written_face is.kept) is.text_of;
    }

-- and its report
pub solid_report_of : (tris : List Tri) (formula : Formula) (texts : List FacesText) (journals : List (List Entry))
    (faces : ℕ) (report : Report) → LeafTextsJoin tris formula → AreLeafTexts tris formula texts →
    AreJournalsOfSolid tris formula journals → report ≡ report_from journals faces → faces ≡ (joined texts).count →
    IsSolidReport tris formula report
solid_report_of tris formula texts journals faces report law are holds e f =
    let is = law texts are in record { kept = is.kept; solid = scene_solid tris formula (joined texts) journals faces report holds e f is }
