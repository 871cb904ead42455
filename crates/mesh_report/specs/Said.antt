-- What standard error takes of a request that is met: lines, or one object of JSON
use Rattle.std.specs.Prelude.{◌&&◌, Bool, not, List, ℕ, if◌then◌else◌}
use Rattle.mesh_boolean.specs.declared.output.SolidFile.{SolidFile}
use Rattle.mesh_boolean.specs.declared.writing.OutputMesh.{OutputMesh}
use Rattle.mesh_scene.specs.declared.scene.scene.PlacedScene.{PlacedScene}
use Rattle.mesh_words.specs.declared.command.ExportRequest.{ExportRequest}
use Rattle.mesh_words.specs.declared.command.Request.{Request}
use Rattle.mesh_words.specs.declared.command.SnapRequest.{SnapRequest}
use Rattle.mesh_report.specs.ReportObjects.{mesh_object, scene_object, solid_object}
use Rattle.mesh_report.specs.Reports.{export_report, report_of, snap_report}

-- lines or an object, unless they are to be quiet
abbrev pub solid_report : Bool → Request → SolidFile → List ℕ
solid_report json request out =
    if json && not request.quiet then solid_object request.files request.format out else report_of request out

abbrev pub placed_report : Bool → SnapRequest → PlacedScene → List ℕ
placed_report json request placed =
    if json && not request.quiet then scene_object request.files placed else snap_report request placed

abbrev pub exported_report : Bool → ExportRequest → OutputMesh → List ℕ
exported_report json request mesh =
    if json && not request.quiet then mesh_object request.format mesh else export_report request mesh
