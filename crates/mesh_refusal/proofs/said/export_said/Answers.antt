use Rattle.std.proofs.Common.{◌≡◌, ℕ, List, ◌++◌, Vec, Global, ap, ◌∙◌}
use Rattle.std.proofs.lemmas.Result.{IfOk-weaker}
use Rattle.mesh_refusal.specs.ExportLines.{export_why}
use Rattle.mesh_refusal.specs.Said.{export_said, status_said}
use Rattle.mesh_refusal.proofs.said.export_said.Goals as goal

pub returns : goal.returns
returns c =
    let a = c.args in
    let why = export_why a.request.now a.status.now in
    let said = c.deref.ensures.value ∙ c.in_ok-put_export_why.ensures ∙ ap (λ (xs : List ℕ). xs ++ why) c.new-why.ensures.items in
    IfOk-weaker c.status_said.result _ (λ (text : Vec ℕ Global). text.items ≡ export_said a.json a.request.now a.status.now)
    (λ text is. is ∙ (λ k. status_said a.json (c.in_ok-names.ensures k) a.status.now (said k))) c.status_said.ensures
