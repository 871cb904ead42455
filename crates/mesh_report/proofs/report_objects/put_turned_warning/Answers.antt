use Rattle.std.proofs.Common.{◌≡◌, List, [], ◌∷◌, ◌++◌, ℕ, ℤ, pos, Bool, true, if◌then◌else◌, Vec, Global, ap, sym, ◌∙◌, to_z-of_z, rules}
use Rattle.std.specs.Prelude.{int_lt}
use Rattle.std.proofs.lemmas.List.{map-append}
use Rattle.mesh_info.specs.Info.Lines.{quoted}
use Rattle.mesh_report.specs.Volumes.{turned_text}
use Rattle.mesh_texts.specs.Objects.{texts_of}
use Rattle.mesh_report.proofs.report_objects.put_turned_warning.Goals as goal

pub returns : goal.returns
returns c =
    let a = c.args in
    let before = texts_of a.texts.now.items in
    let turned = turned_text a.number a.name.now a.step.now in
    let below : int_lt a.sixfold_volume (pos 0) ≡ true = search rules in
    let start = ap (λ (xs : List ℕ). xs ++ turned a.sixfold_volume) c.new-said.ensures.items in
    let put = c.in_ok-put_turned.ensures ∙ ap (λ (v : ℤ). c.new-said.result.items ++ turned v) (to_z-of_z c.ranges.sixfold_volume) ∙ start in
    let said = c.in_ok-string.ensures ∙ ap quoted (c.deref.ensures.value ∙ put) in
    let pushed = ap texts_of c.in_ok-push.ensures.items
    ∙ map-append (λ (v : Vec ℕ Global). v.items) a.texts.now.items (c.in_ok-string.field-0 ∷ []) in
    pushed ∙ ap (λ (v : List ℕ). before ++ v ∷ []) said
    ∙ ap (λ (b : Bool). before ++ (if b then quoted (turned a.sixfold_volume) ∷ [] else [])) (sym below)
