use Rattle.std.proofs.Common.{◌≡◌, ℕ, List, [], ◌∷◌, Vec, Global, codes, ap, ◌∙◌}
use Rattle.std.proofs.lemmas.Result.{IfOk-weaker}
use Rattle.mesh_texts.specs.Objects.{array, object_line, texts_of}
use Rattle.mesh_report.specs.ReportObjects.{file_objects, solid_object}
use Rattle.mesh_texts.proofs.Entries.{entry}
use Rattle.mesh_report.proofs.report_objects.solid_object.Goals as goal

pub returns : goal.returns
returns c =
    let names = c.args.names.now in
    let out = c.args.output.now in
    let volumes = c.as_slice-volumes.ensures.value in
    let files_are = c.in_ok-files.ensures
    ∙ (λ k. array (file_objects names out.grid.step (c.deref.ensures.value k) (c.deref-2.ensures.value k) (volumes k))) in
    let warnings_are = c.in_ok-warnings.ensures ∙ ap (λ (ts : List (Vec ℕ Global)). array (texts_of ts)) c.deref-3.ensures.value
    ∙ ap array c.in_ok-texts.ensures in
    let step = c.keyed.ensures ∙ ap (entry (codes "step")) c.in_ok-step.ensures in
    let offset = c.keyed-2.ensures ∙ ap (entry (codes "offset")) c.in_ok-offset.ensures in
    let files = c.keyed-3.ensures ∙ ap (entry (codes "files")) files_are in
    let result = c.keyed-4.ensures ∙ ap (entry (codes "result")) c.in_ok-result.ensures in
    let on_files = c.keyed-5.ensures ∙ ap (entry (codes "triangles on files")) c.in_ok-on_files.ensures in
    let warnings = c.keyed-6.ensures ∙ ap (entry (codes "warnings")) warnings_are in
    IfOk-weaker c.object_line.result _ (λ (text : Vec ℕ Global). text.items ≡ solid_object names c.args.format out)
    (λ text is. is ∙ (λ k. object_line (step k ∷ offset k ∷ files k ∷ result k ∷ on_files k ∷ warnings k ∷ []))) c.object_line.ensures
