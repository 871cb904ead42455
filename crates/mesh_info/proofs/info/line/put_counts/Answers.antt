use Rattle.std.proofs.Common.{ℕ, ◌++◌, ap, ◌∙◌, decimal}
use Rattle.std.specs.Prelude.{codes}
use Rattle.mesh_info.specs.Info.Lines.{key_text}
use Rattle.mesh_number.proofs.Appended.{after8, on_ok_same}
use Rattle.mesh_info.proofs.info.line.put_counts.Goals as goal

pub returns : goal.returns
returns c =
    let info = c.args.info.now in
    let triangles = c.in_ok-put_count.ensures ∙ ap (λ (n : ℕ). c.put_key.new.text.items ++ decimal n) c.from.ensures in
    let positions = c.in_ok-put_count-2.ensures ∙ ap (λ (n : ℕ). c.put_key-2.new.text.items ++ decimal n) c.from-2.ensures in
    let shared = ap (λ (n : ℕ). c.put_key-4.new.text.items ++ decimal n) c.from-3.ensures in
    on_ok_same _ _ _ c.put_count-4.result c.put_count-4.ensures
    (shared
    ∙ after8 (key_text (codes "triangles")) (decimal info.triangles) (key_text (codes "positions"))
    (decimal info.positions) (key_text (codes "loose edges")) (decimal info.loose)
    (key_text (codes "edges of more than two triangles")) (decimal info.shared) _ _ _ _ _ _ _ _
    c.in_ok-put_key.ensures triangles c.in_ok-put_key-2.ensures positions c.in_ok-put_key-3.ensures c.in_ok-put_count-3.ensures c.in_ok-put_key-4.ensures)
