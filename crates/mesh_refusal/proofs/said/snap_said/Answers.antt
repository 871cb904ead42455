use Rattle.std.proofs.Common.{◌≡◌, ℕ, List, ◌++◌, Vec, Global, ap, ◌∙◌}
use Rattle.std.proofs.lemmas.Result.{IfOk-weaker}
use Rattle.mesh_refusal.specs.Lines.{snap_why}
use Rattle.mesh_refusal.specs.Said.{snap_said, status_said}
use Rattle.mesh_refusal.proofs.said.snap_said.Goals as goal

pub returns : goal.returns
returns c =
    let a = c.args in
    let why = snap_why a.request.now a.status.now in
    let said = c.deref.ensures.value ∙ c.in_ok-put_scene_why.ensures ∙ ap (λ (xs : List ℕ). xs ++ why) c.new-why.ensures.items in
    IfOk-weaker c.status_said.result _ (λ (text : Vec ℕ Global). text.items ≡ snap_said a.json a.request.now a.status.now)
    (λ text is. is ∙ ap (status_said a.json a.request.now.files a.status.now) said) c.status_said.ensures
