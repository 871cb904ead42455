use Rattle.std.proofs.Common.{◌≡◌, List, [], ◌∷◌, ◌++◌, ℕ, Bool, true, if◌then◌else◌, Vec, Global, ap, sym, ◌∙◌, rules}
use Rattle.std.specs.Prelude.{◌==◌}
use Rattle.std.proofs.lemmas.List.{map-append}
use Rattle.mesh_info.specs.Info.Lines.{quoted}
use Rattle.mesh_report.specs.Lying.{missed_text}
use Rattle.mesh_texts.specs.Objects.{texts_of}
use Rattle.mesh_report.proofs.lying.put_missed_warning.Goals as goal

pub returns : goal.returns
returns c =
    let a = c.args in
    let before = texts_of a.texts.now.items in
    let missed = missed_text a.name.now a.all in
    let none : (a.count == 0) ≡ true = search rules in
    let start = ap (λ (xs : List ℕ). xs ++ missed) c.new-said.ensures.items in
    let said = c.in_ok-string.ensures ∙ ap quoted (c.deref.ensures.value ∙ c.in_ok-put_missed.ensures ∙ start) in
    let pushed = ap texts_of c.in_ok-push.ensures.items
    ∙ map-append (λ (v : Vec ℕ Global). v.items) a.texts.now.items (c.in_ok-string.field-0 ∷ []) in
    pushed ∙ ap (λ (v : List ℕ). before ++ v ∷ []) said
    ∙ ap (λ (b : Bool). before ++ (if b then quoted missed ∷ [] else [])) (sym none)
