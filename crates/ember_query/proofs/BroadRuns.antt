-- The lists of outlines of the leaves of a scene on the broad grid give its faces and the report.
use Rattle.std.proofs.Common.{◌≡◌, ◌<◌, ◌^◌, ℕ, List, flat_map, length, refl, sym, ap, subst, ◌∙◌}
use Rattle.std.specs.List.{sum_by}
use Rattle.ember_expr.specs.Formula.{Formula}
use Rattle.ember_job.specs.declared.job.Entry.{Entry}
use Rattle.ember_model.specs.declared.face.Face.{Face}
use Rattle.ember_model.specs.declared.tri.Tri.{Tri}
use Rattle.ember_report.specs.declared.report.Report.{Report}
use Rattle.ember_report.specs.Reports.{report_from}
use Rattle.ember_report.specs.Runs.{run_report}
use Rattle.ember_step.specs.Outlines.{LeafOutlinesJoin}
use Rattle.ember_visit.specs.Jobs.{root_job_on}
use Rattle.ember_visit.specs.Values.{shape_on}
use Rattle.ember_query.proofs.Reports.{entries_fit, same_report}
use Rattle.ember_query.specs.BroadLeaves.{broad_numbers, AreBroadOutlines, AreBroadSceneOutlines, AreJournalsOnBroad, IsReportOnBroad}

pub broad_journals_fit : (tris : List Tri) (formula : Formula) (journals : List (List Entry)) →
    AreJournalsOnBroad tris formula journals → sum_by length journals < 2 ^ 64
broad_journals_fit tris formula journals holds =
    entries_fit (shape_on 8 (2 ^ 43) tris formula) (root_job_on 8 tris) journals refl holds

pub broad_report_is : (tris : List Tri) (formula : Formula) (journals : List (List Entry)) (faces : List Face) (count : ℕ)
    (report : Report) → AreJournalsOnBroad tris formula journals → report ≡ report_from journals count →
    count ≡ length faces → IsReportOnBroad tris formula faces report
broad_report_is tris formula journals faces count report holds e f =
    e ∙ same_report (shape_on 8 (2 ^ 43) tris formula) (root_job_on 8 tris) journals count holds
    ∙ ap (run_report (shape_on 8 (2 ^ 43) tris formula) (root_job_on 8 tris)) f

pub broad_faces_are : (tris : List Tri) (formula : Formula) (lists : List (List Face)) (faces : List Face) →
    LeafOutlinesJoin broad_numbers tris formula → AreBroadOutlines tris formula lists →
    faces ≡ flat_map (λ list. list) lists → AreBroadSceneOutlines tris formula faces
broad_faces_are tris formula lists faces law are e = subst (AreBroadSceneOutlines tris formula) (sym e) (law lists are)
