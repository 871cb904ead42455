use Rattle.std.proofs.Common.{List, ℕ, ℤ, ◌++◌, ap, ◌∙◌, to_z-of_z}
use Rattle.mesh_texts.specs.Texts.{line}
use Rattle.mesh_report.specs.Volumes.{said_text}
use Rattle.mesh_number.proofs.Appended.{on_ok_same}
use Rattle.mesh_report.proofs.volumes.put_volume_line.Goals as goal

pub returns : goal.returns
returns c =
    let said = said_text c.args.number c.args.name.now c.args.step.now c.args.sixfold_volume in
    let same = ap (λ (v : ℤ). c.new-said.result.items ++ said_text c.args.number c.args.name.now c.args.step.now v)
    (to_z-of_z c.ranges.sixfold_volume) in
    let start = ap (λ (xs : List ℕ). xs ++ said) c.new-said.ensures.items in
    on_ok_same _ _ _ c.put_line.result c.put_line.ensures
    (ap (λ (xs : List ℕ). c.args.text.now.items ++ line xs) (c.deref.ensures.value ∙ c.in_ok-put_said.ensures ∙ same ∙ start))
