use Rattle.std.proofs.Common.{codes, List, ℕ, [], ◌++◌, ap, sym, ◌∙◌, Bool, if◌then◌else◌}
use Rattle.mesh_texts.specs.Texts.{line}
use Rattle.mesh_report.specs.Reports.{coarse_text}
use Rattle.mesh_number.proofs.Appended.{on_ok_same}
use Rattle.mesh_report.proofs.report.put_coarse.Goals as goal

pub returns : goal.returns
returns c =
    let text = coarse_text c.args.format c.args.mesh.now in
    let start = ap (λ (xs : List ℕ). xs ++ text) c.in_ok-said.ensures.items in
    let said = ap (λ (xs : List ℕ). c.args.text.now.items ++ line xs) (c.deref.ensures.value ∙ c.in_ok-put_coarse_text.ensures ∙ start) in
    let warned = ap (λ (b : Bool). c.args.text.now.items ++ (if b then line (codes "warning: " ++ text) else [])) (sym c.if-not-mesh.false) in
    on_ok_same _ _ _ c.put_line.result c.put_line.ensures (said ∙ warned)
