use Rattle.std.proofs.Common.{◌≡◌, ℕ, List, ◌++◌, Vec, Global, None, map, ap, ◌∙◌}
use Rattle.std.specs.Prelude.{string_bytes}
use Rattle.std.proofs.lemmas.Result.{IfOk-weaker}
use Rattle.mesh_refusal.specs.WordLines.{refusal_text}
use Rattle.mesh_refusal.specs.Said.{said, words_said}
use Rattle.mesh_refusal.proofs.said.words_said.Goals as goal

pub returns : goal.returns
returns c =
    let a = c.args in
    let words = map string_bytes a.words.now in
    let why = refusal_text words a.refusal in
    let text_is = c.deref.ensures.value ∙ c.in_ok-put_refusal.ensures ∙ ap (λ (xs : List ℕ). xs ++ why) c.new-why.ensures.items in
    IfOk-weaker c.said.result _ (λ (text : Vec ℕ Global). text.items ≡ words_said a.json words a.refusal)
    (λ text is. is ∙ ap (said a.json 2 None None) text_is) c.said.ensures
