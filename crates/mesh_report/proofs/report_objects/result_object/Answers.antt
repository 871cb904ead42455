use Rattle.std.proofs.Common.{◌≡◌, ℕ, [], ◌∷◌, Vec, Global, codes, ap, ◌∙◌}
use Rattle.std.proofs.lemmas.Result.{IfOk-weaker}
use Rattle.mesh_texts.specs.Objects.{object}
use Rattle.mesh_report.specs.ReportObjects.{result_object}
use Rattle.mesh_texts.proofs.Entries.{entry}
use Rattle.mesh_report.proofs.report_objects.result_object.Goals as goal

pub returns : goal.returns
returns c =
    let empty = c.keyed.ensures ∙ ap (entry (codes "empty")) c.in_ok-empty.ensures in
    let faces = c.keyed-2.ensures ∙ ap (entry (codes "faces")) c.in_ok-faces.ensures in
    let triangles = c.keyed-3.ensures ∙ ap (entry (codes "triangles")) c.in_ok-triangles.ensures in
    let planes = c.keyed-4.ensures ∙ ap (entry (codes "planes")) c.in_ok-planes.ensures in
    let moved = c.keyed-5.ensures ∙ ap (entry (codes "greatest rounding move")) c.in_ok-moved.ensures in
    let vanished = c.keyed-6.ensures ∙ ap (entry (codes "vanished")) c.in_ok-vanished.ensures in
    let without_area = c.keyed-7.ensures ∙ ap (entry (codes "without area")) c.in_ok-without_area.ensures in
    let turned_over = c.keyed-8.ensures ∙ ap (entry (codes "turned over")) c.in_ok-turned_over.ensures in
    let shared = c.keyed-9.ensures ∙ ap (entry (codes "edges of more than two triangles")) c.in_ok-shared.ensures in
    let manifold = c.keyed-10.ensures ∙ ap (entry (codes "2-manifold")) c.in_ok-manifold.ensures in
    IfOk-weaker c.object.result _
    (λ (text : Vec ℕ Global). text.items ≡ result_object c.args.format c.args.faces c.args.mesh.now)
    (λ text is. is ∙ (λ k. object (empty k ∷ faces k ∷ triangles k ∷ planes k ∷ moved k ∷ vanished k ∷ without_area k
    ∷ turned_over k ∷ shared k ∷ manifold k ∷ []))) c.object.ensures
