use Rattle.std.proofs.Common.{arith}
use Rattle.ember_query.proofs.BroadRuns.{broad_journals_fit, broad_report_is, broad_faces_are}
use Rattle.ember_query.proofs.broad_faces.broad_solid_faces.Goals as goal

pub report_of-report-requires : goal.report_of-report-requires
report_of-report-requires g c = broad_journals_fit _ _ _ c.in_ok-found.ensures.journals

pub returns-clause-faces : goal.returns-clause-faces
returns-clause-faces g c =
    broad_faces_are _ _ _ _ c.leaf_outlines_join.ensures c.in_ok-found.ensures.items c.in_ok-faces.ensures

pub returns-clause-report : goal.returns-clause-report
returns-clause-report g c =
    broad_report_is _ _ _ _ _ _ c.in_ok-found.ensures.journals c.report_of-report.ensures (omega arith)
