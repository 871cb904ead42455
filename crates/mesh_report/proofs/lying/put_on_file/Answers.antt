use Rattle.std.proofs.Common.{List, ℕ, ◌++◌, ap, ◌∙◌}
use Rattle.mesh_texts.specs.Texts.{line}
use Rattle.mesh_report.specs.Lying.{on_file_text}
use Rattle.mesh_number.proofs.Appended.{on_ok_same}
use Rattle.mesh_report.proofs.lying.put_on_file.Goals as goal

pub returns : goal.returns
returns c =
    let said = on_file_text c.args.name.now c.args.count c.args.all in
    let start = ap (λ (xs : List ℕ). xs ++ said) c.new-said.ensures.items in
    on_ok_same _ _ _ c.put_line.result c.put_line.ensures
    (ap (λ (xs : List ℕ). c.args.text.now.items ++ line xs) (c.deref.ensures.value ∙ c.in_ok-put_on_file_text.ensures ∙ start))
