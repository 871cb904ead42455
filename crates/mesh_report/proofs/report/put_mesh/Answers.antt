use Rattle.std.proofs.Common.{codes, List, ℕ, ◌++◌, ap, ◌∙◌}
use Rattle.mesh_texts.specs.Texts.{line}
use Rattle.mesh_report.specs.Reports.{losses_text, mesh_text}
use Rattle.mesh_number.proofs.Appended.{after3, on_ok_same}
use Rattle.mesh_report.proofs.report.put_mesh.Goals as goal

pub returns : goal.returns
returns c =
    let faces = c.args.faces in
    let mesh = c.args.mesh.now in
    let rest = after3 (mesh_text faces mesh) (codes "; ") (losses_text mesh) _ _ _ c.in_ok-put_mesh_text.ensures c.in_ok-extend_from_slice.ensures.items in
    let start = ap (λ (xs : List ℕ). xs ++ (mesh_text faces mesh ++ (codes "; " ++ losses_text mesh))) c.new-said.ensures.items in
    on_ok_same _ _ _ c.put_line.result c.put_line.ensures
    (ap (λ (xs : List ℕ). c.args.text.now.items ++ line xs) (c.deref.ensures.value ∙ c.in_ok-put_losses.ensures ∙ rest ∙ start))
