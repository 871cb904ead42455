use Rattle.std.proofs.Common.{◌∙◌, ap, arith}
use Rattle.ember_report.specs.declared.report.Report.{Report}
use Rattle.ember_reread.proofs.BodyTexts.{file_valid}
use Rattle.ember_query.proofs.FacesOfSolids.{are_solid_faces, faces_report_is}
use Rattle.ember_query.proofs.SolidRuns.{journals_fit}
use Rattle.ember_query.proofs.faces.solid_faces.Goals as goal

pub report_of-report-requires : goal.report_of-report-requires
report_of-report-requires g c = journals_fit _ _ _ c.in_ok-found.ensures.journals

pub returns-clause-faces : goal.returns-clause-faces
returns-clause-faces g c =
    are_solid_faces _ _ _ _ _ _ _ c.leaf_faces_join.ensures c.in_ok-found.ensures.items c.in_ok-found.ensures.journals
    c.report_of-report.ensures (omega arith) c.in_ok-faces.ensures

pub returns-clause-valid : goal.returns-clause-valid
returns-clause-valid g c =
    file_valid (are_solid_faces _ _ _ _ _ _ _ c.leaf_faces_join.ensures c.in_ok-found.ensures.items
    c.in_ok-found.ensures.journals c.report_of-report.ensures (omega arith) c.in_ok-faces.ensures).read

pub returns-clause-report : goal.returns-clause-report
returns-clause-report g c =
    faces_report_is _ _ _ _ _ _ _ c.leaf_faces_join.ensures c.in_ok-found.ensures.items c.in_ok-found.ensures.journals
    c.report_of-report.ensures (omega arith) c.in_ok-faces.ensures

pub returns-clause-count : goal.returns-clause-count
returns-clause-count g c =
    ap (λ (report : Report). report.faces) c.report_of-report.ensures ∙ omega arith
