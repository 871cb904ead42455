-- What the leaves of a scene on the broad grid give, and its journals
use Rattle.std.specs.Prelude.{◌≡◌, ◌^◌, pos, List, length}
use Rattle.ember_expr.specs.Formula.{Formula}
use Rattle.ember_job.specs.declared.job.Entry.{Entry}
use Rattle.ember_model.specs.declared.face.Face.{Face}
use Rattle.ember_model.specs.declared.tri.Tri.{Tri}
use Rattle.ember_model.specs.Limits.{broad_limit}
use Rattle.ember_report.specs.declared.report.Report.{Report}
use Rattle.ember_report.specs.Runs.{AreJournalsOf, run_report}
use Rattle.ember_step.specs.Outlines.{AreLeafOutlines, AreSceneOutlines}
use Rattle.ember_visit.specs.Jobs.{root_job_on}
use Rattle.ember_visit.specs.Values.{shape_on}
use Rattle.ember_width.specs.declared.broad.Broad.{Broad}
use Rattle.ember_width.specs.declared.broad_point.BroadPoint.{BroadPoint}
use Rattle.ember_width.specs.declared.width.Width.{Ghosts}
use Rattle.ember_width.specs.Broad.{IsBroadPlane}
use Rattle.ember_width.specs.BroadPoints.{spot_of, is_short}

-- the numbers of the broad grid, as its width has them
abbrev pub broad_numbers : Ghosts Broad BroadPoint
broad_numbers = record {
  UNIT = pos 256;
  scale = 8;
  corner = broad_limit;
  fine = 2 ^ 43;
  IsPlane = IsBroadPlane;
  spot = spot_of;
  short = is_short;
}

-- the lists of faces of outlines of the visited leaves
abbrev pub AreBroadOutlines : List Tri → Formula → List (List Face) → Type 0
AreBroadOutlines tris formula lists = AreLeafOutlines broad_numbers tris formula lists

-- all of them together: the faces of the outlines of the written regions of the scene
abbrev pub AreBroadSceneOutlines : List Tri → Formula → List Face → Type 0
AreBroadSceneOutlines tris formula faces = AreSceneOutlines broad_numbers tris formula faces

-- the journals have the boxes that are visited
abbrev pub AreJournalsOnBroad : List Tri → Formula → List (List Entry) → Type 0
AreJournalsOnBroad tris formula journals =
    AreJournalsOf (shape_on 8 (2 ^ 43) tris formula) (root_job_on 8 tris) journals

-- the report has these boxes, and the number of these faces
abbrev pub IsReportOnBroad : List Tri → Formula → List Face → Report → Type 0
IsReportOnBroad tris formula faces report =
    report ≡ run_report (shape_on 8 (2 ^ 43) tris formula) (root_job_on 8 tris) (length faces)
