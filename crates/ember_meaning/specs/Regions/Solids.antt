-- The written regions of a solid, its report and its document
use Rattle.std.specs.Prelude.{◌≡◌, ℕ, List, length, map}
use Rattle.ember_expr.specs.Formula.{Formula}
use Rattle.ember_job.specs.declared.job.Entry.{Entry}
use Rattle.ember_leaf.specs.KeptRegions.{NarrowKept as Kept}
use Rattle.ember_leaf.specs.Scenes.{IsWritten}
use Rattle.ember_model.specs.declared.face.Face.{Face}
use Rattle.ember_model.specs.declared.tri.Tri.{Tri}
use Rattle.ember_model.specs.FaceFiles.{IsFaceFile}
use Rattle.ember_report.specs.declared.report.Report.{Report}
use Rattle.ember_text.specs.Documents.{IsDocumentText, written_face}
use Rattle.ember_visit.specs.Jobs.{root_job}
use Rattle.ember_visit.specs.Values.{shape}
use Rattle.ember_report.specs.Runs.{AreJournalsOf, run_report}

-- the journals have the boxes that are visited for the solid
abbrev pub AreJournalsOfSolid : List Tri → Formula → List (List Entry) → Type 0
AreJournalsOfSolid tris formula journals = AreJournalsOf (shape tris formula) (root_job tris) journals

-- the written regions of the scene, and the report: the visited boxes, and the number of these regions
pub record IsSolid (tris : List Tri) (formula : Formula) (kept : List Kept) (report : Report) : Type 0 where
  pub written : IsWritten tris formula kept
  pub report_is : report ≡ run_report (shape tris formula) (root_job tris) (length kept)

-- this is the report of the solid
pub record IsSolidReport (tris : List Tri) (formula : Formula) (report : Report) : Type 0 where
  pub kept : List Kept
  pub solid : IsSolid tris formula kept report

-- the bytes are the face file of the solid's written regions. `report` is a field only because `IsSolid` is about
-- regions and report together: for any regions there is just one report, and the bytes don't depend on it
pub record IsSolidText (tris : List Tri) (formula : Formula) (bytes : List ℕ) : Type 0 where
  pub kept : List Kept
  pub report : Report
  pub solid : IsSolid tris formula kept report
  pub text : IsDocumentText (map written_face kept) bytes

-- the faces are those that the document of the solid holds. Nobody need have made this document
pub record AreSolidFaces (tris : List Tri) (formula : Formula) (faces : List Face) : Type 0 where
  pub bytes : List ℕ
  pub text : IsSolidText tris formula bytes
  pub read : IsFaceFile bytes faces
