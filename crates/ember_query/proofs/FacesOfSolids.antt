-- The lists of faces of the leaves give the solid's faces and its report.
use Rattle.std.proofs.Common.{◌≡◌, ℕ, List, flat_map, map, length, sym, subst, ◌∙◌}
use Rattle.std.proofs.lemmas.List.{length-map}
use Rattle.std.proofs.lemmas.Slice.Zip.{AllZip-long}
use Rattle.ember_expr.specs.Formula.{Formula}
use Rattle.ember_job.specs.declared.job.Entry.{Entry}
use Rattle.ember_model.specs.declared.face.Face.{Face}
use Rattle.ember_model.specs.declared.tri.Tri.{Tri}
use Rattle.ember_report.specs.declared.report.Report.{Report}
use Rattle.ember_report.specs.Reports.{report_from}
use Rattle.ember_step.specs.Faces.{AreLeafFaces, AreSceneFaces, LeafFacesJoin}
use Rattle.ember_text.specs.Documents.{written_face}
use Rattle.ember_text.specs.FacesInTexts.{IsFaceInText}
use Rattle.ember_text.proofs.DocumentsWithFaces.{faces_have_document}
use Rattle.ember_meaning.specs.Regions.Solids.{AreJournalsOfSolid, AreSolidFaces, IsSolid, IsSolidReport}
use Rattle.ember_query.proofs.SolidRuns.{of_run}

module _ (tris : List Tri) (formula : Formula) (lists : List (List Face)) (journals : List (List Entry)) (count : ℕ)
    (report : Report) (faces : List Face) (law : LeafFacesJoin tris formula) (are : AreLeafFaces tris formula lists)
    (holds : AreJournalsOfSolid tris formula journals) (of_journals : report ≡ report_from journals count)
    (counted : count ≡ length faces) (joined : faces ≡ flat_map (λ list. list) lists) where
  scene_faces : AreSceneFaces tris formula faces
  scene_faces = subst (AreSceneFaces tris formula) (sym joined) (law lists are)

  solid : IsSolid tris formula scene_faces.kept report
  solid =
      let kept = scene_faces.kept in
      record {
        written = scene_faces.has;
        report_is = of_run tris formula journals count (length kept) report holds of_journals
            (counted ∙ AllZip-long IsFaceInText (map written_face kept) faces scene_faces.faces_of
            ∙ length-map kept written_face);
      }

  -- they are the solid's faces
  pub are_solid_faces : AreSolidFaces tris formula faces
  are_solid_faces =
      let d = faces_have_document (map written_face scene_faces.kept) faces scene_faces.faces_of in
      record { bytes = d.bytes; text = record { kept = scene_faces.kept; report = report; solid = solid; text = d.document }; read = d.read }

  -- and the report is the solid's
  pub faces_report_is : IsSolidReport tris formula report
  faces_report_is = record { kept = scene_faces.kept; solid = solid }
