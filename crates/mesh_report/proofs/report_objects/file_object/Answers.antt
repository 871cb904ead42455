use Rattle.std.proofs.Common.{◌≡◌, ℕ, [], ◌∷◌, Vec, Global, codes, ap, ◌∙◌}
use Rattle.std.proofs.lemmas.Result.{IfOk-weaker}
use Rattle.mesh_grid.specs.Moves.Shown.{rounded_of}
use Rattle.mesh_texts.specs.Objects.{object}
use Rattle.mesh_report.specs.ReportObjects.{file_object}
use Rattle.mesh_texts.proofs.Entries.{entry}
use Rattle.mesh_report.proofs.report_objects.file_object.Goals as goal

pub returns : goal.returns
returns c =
    let a = c.args in
    let file = c.keyed.ensures ∙ ap (entry (codes "file")) c.in_ok-name.ensures in
    let triangles = c.keyed-2.ensures ∙ ap (entry (codes "triangles")) c.in_ok-triangles.ensures in
    let vanished = c.keyed-3.ensures ∙ ap (entry (codes "vanished")) c.in_ok-vanished.ensures in
    let flat = c.keyed-4.ensures ∙ ap (entry (codes "without area")) c.in_ok-flat.ensures in
    let moved = c.keyed-5.ensures ∙ ap (entry (codes "greatest move")) c.in_ok-moved.ensures in
    let volume = c.keyed-6.ensures in
    IfOk-weaker c.object.result _
    (λ (text : Vec ℕ Global). text.items ≡ file_object a.name.now a.counts.now (rounded_of a.moved.now) a.volume.items)
    (λ text is. is ∙ (λ k. object (file k ∷ triangles k ∷ vanished k ∷ flat k ∷ moved k ∷ volume k ∷ []))) c.object.ensures
