use Rattle.std.proofs.Common.{◌≡◌, codes, List, ℕ, ℤ, ◌++◌, ap, ◌∙◌, rules}
use mir.Syntax.{w128}
use mir.Val.{to_z, of_z}
use Rattle.std.specs.Fmt.{signed_decimal}
use Rattle.mesh_texts.specs.Texts.{line, step_text}
use Rattle.mesh_number.proofs.Appended.{after7, on_ok_same}
use Rattle.mesh_report.proofs.report.put_grid.Goals as goal

pub returns : goal.returns
returns c =
    let g = c.args.grid.now in
    let x : to_z w128 (of_z w128 g.offset.x) ≡ g.offset.x = search rules in
    let y : to_z w128 (of_z w128 g.offset.y) ≡ g.offset.y = search rules in
    let z : to_z w128 (of_z w128 g.offset.z) ≡ g.offset.z = search rules in
    let along_x = c.in_ok-put_signed.ensures ∙ ap (λ (n : ℤ). c.extend_from_slice.new.self.items ++ signed_decimal n) x in
    let along_y = c.in_ok-put_signed-2.ensures ∙ ap (λ (n : ℤ). c.extend_from_slice-2.new.self.items ++ signed_decimal n) y in
    let along_z = c.in_ok-put_signed-3.ensures ∙ ap (λ (n : ℤ). c.extend_from_slice-3.new.self.items ++ signed_decimal n) z in
    let rest = after7 (step_text g.step) (codes ", grid offset ") (signed_decimal g.offset.x) (codes " ")
    (signed_decimal g.offset.y) (codes " ") (signed_decimal g.offset.z) _ _ _ _ _ _ _ c.in_ok-put_step.ensures
    c.in_ok-extend_from_slice.ensures.items along_x c.in_ok-extend_from_slice-2.ensures.items along_y
    c.in_ok-extend_from_slice-3.ensures.items in
    let start = ap (λ (xs : List ℕ). xs ++ (step_text g.step
    ++ (codes ", grid offset " ++ (signed_decimal g.offset.x
    ++ (codes " " ++ (signed_decimal g.offset.y ++ (codes " " ++ signed_decimal g.offset.z)))))))
    c.in_ok-said.ensures.items in
    on_ok_same _ _ _ c.put_line.result c.put_line.ensures
    (ap (λ (xs : List ℕ). c.args.text.now.items ++ line xs) (c.deref.ensures.value ∙ along_z ∙ rest ∙ start))
