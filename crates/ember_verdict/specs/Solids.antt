-- What `bool` and `demo` write of a solid
use Rattle.std.specs.Prelude.{◌≡◌, ℕ, Bool, true, false, List, []}
use Rattle.ember_meaning.specs.Closed.Chains.{IsClosedSurface}
use Rattle.ember_expr.specs.Formula.{Formula}
use Rattle.ember_leaf.specs.KeptRegions.{NarrowKept as Kept}
use Rattle.ember_meaning.specs.Regions.Meaning.{HaveMeaning, ReadsWithMeaning}
use Rattle.ember_model.specs.declared.tri.Tri.{Tri}
use Rattle.ember_model.specs.declared.face.Face.{Face}
use Rattle.ember_model.specs.FaceFiles.{IsFaceFile}
use Rattle.ember_meaning.specs.Regions.Solids.{IsSolid, IsSolidText}
use Rattle.ember_report.specs.declared.report.Report.{Report}
use Rattle.ember_report.specs.Reports.{report_line_of}

-- each reading of the bytes is a closed surface
abbrev pub IsClosedFile : List ℕ → Type 0
IsClosedFile bytes = (faces : List Face) (file : IsFaceFile bytes faces) → IsClosedSurface file.written

-- `text`: the bytes are the face file of the written regions. `reads`: some list of faces is read from them,
-- whose edges with their corners are the outlines of its faces. `means`, `closed`: every list of faces that can
-- be read from them has the meaning of the expression over the triangles, and its written edges are a closed
-- surface.
pub record IsSolidFile (tris : List Tri) (formula : Formula) (bytes : List ℕ) : Type 0 where
  pub text : IsSolidText tris formula bytes
  pub reads : ReadsWithMeaning tris formula bytes
  pub means : (faces : List Face) → IsFaceFile bytes faces → HaveMeaning tris formula faces
  pub closed : IsClosedFile bytes

-- the bytes are the line of the solid's report
pub record IsReportText (tris : List Tri) (formula : Formula) (bytes : List ℕ) : Type 0 where
  pub kept : List Kept
  pub report : Report
  pub solid : IsSolid tris formula kept report
  pub text : bytes ≡ report_line_of report

-- the line of a report if one is asked for, otherwise nothing
abbrev pub line_if_asked : Bool → Report → List ℕ
line_if_asked true report = report_line_of report
line_if_asked false report = []

-- the line is that of the solid's report if one is asked for, otherwise it is empty
abbrev pub IsReportTextIfAsked : Bool → List Tri → Formula → List ℕ → Type 0
IsReportTextIfAsked true tris formula line = IsReportText tris formula line
IsReportTextIfAsked false tris formula line = line ≡ []
