use Rattle.std.proofs.Common.{◌≡◌, ℕ, List, Vec, Global, Some, None, option_map, ap, sym, ◌∙◌}
use Rattle.std.proofs.lemmas.Result.{IfOk-weaker}
use Rattle.mesh_refusal.specs.Said.{place_known, said, status_said}
use Rattle.mesh_refusal.proofs.said.status_said.Goals as goal

pub returns-in-Some : goal.returns-in-Some
returns-in-Some c =
    let a = c.args in
    let known : Some c.deref.result.now ≡ place_known a.status.now =
    ap (λ (place : List ℕ). Some place) c.deref.ensures.value
    ∙ sym (ap (option_map (λ (place : Vec ℕ Global). place.items)) c.in-Some.is) ∙ c.in_ok-place.ensures in
    IfOk-weaker c.said.result _ (λ (text : Vec ℕ Global). text.items ≡ status_said a.json a.names.now a.status.now a.why.now)
    (λ text is. is ∙ (λ k. said a.json (c.number-number.ensures k) (c.file_at_fault-file.ensures k) (known k) a.why.now))
    c.said.ensures

pub returns-in-None : goal.returns-in-None
returns-in-None c =
    let a = c.args in
    let known : None ≡ place_known a.status.now =
    sym (ap (option_map (λ (place : Vec ℕ Global). place.items)) c.in-None.is) ∙ c.in_ok-place.ensures in
    IfOk-weaker c.said-in-None.result _
    (λ (text : Vec ℕ Global). text.items ≡ status_said a.json a.names.now a.status.now a.why.now)
    (λ text is. is ∙ (λ k. said a.json (c.number-number.ensures k) (c.file_at_fault-file.ensures k) (known k) a.why.now))
    c.said-in-None.ensures
