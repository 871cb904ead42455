use Rattle.std.proofs.Common.{◌≡◌, codes, List, ℕ, [], ◌++◌, ap, sym, ◌∙◌, Bool, true, if◌then◌else◌}
use Rattle.mesh_texts.specs.Texts.{line}
use Rattle.mesh_report.specs.Reports.{is_unpaired, unpaired_text}
use Rattle.mesh_number.proofs.Appended.{on_ok_same}
use Rattle.mesh_report.proofs.report.put_unpaired.Goals as goal

pub returns : goal.returns
returns c =
    let text = unpaired_text c.args.format in
    let holds : is_unpaired c.args.format c.args.mesh.now ≡ true = sym c.is_unpaired.ensures ∙ c.if-not-is_unpaired.false in
    let start = ap (λ (xs : List ℕ). xs ++ text) c.in_ok-said.ensures.items in
    let said = ap (λ (xs : List ℕ). c.args.text.now.items ++ line xs) (c.deref.ensures.value ∙ c.in_ok-put_unpaired_text.ensures ∙ start) in
    let warned = ap (λ (b : Bool). c.args.text.now.items ++ (if b then line (codes "warning: " ++ text) else [])) (sym holds) in
    on_ok_same _ _ _ c.put_line.result c.put_line.ensures (said ∙ warned)
