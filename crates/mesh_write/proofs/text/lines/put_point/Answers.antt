use Rattle.std.proofs.Common.{◌≡◌, ℤ, ◌++◌, codes, ap, ◌∙◌, rules}
use mir.Syntax.{w128}
use mir.Val.{to_z, of_z}
use Rattle.mesh_write.specs.Text.Lines.{coordinate_text, spaced, point_line}
use Rattle.mesh_number.proofs.Appended.{after4, on_ok_if}
use Rattle.mesh_write.proofs.text.lines.put_point.Goals as goal

pub returns : goal.returns
unfolding point_line
returns c =
    let p = c.args.point.now in
    let n = c.args.places in
    let x : to_z w128 (of_z w128 p.x) ≡ p.x = search rules in
    let y : to_z w128 (of_z w128 p.y) ≡ p.y = search rules in
    let z : to_z w128 (of_z w128 p.z) ≡ p.z = search rules in
    let along_x = c.in_ok-put_coordinate.ensures ∙ ap (λ (k : ℤ). c.args.out.now.items ++ coordinate_text n k) x in
    let along_y = c.in_ok-put_spaced.ensures ∙ ap (λ (k : ℤ). c.put_coordinate.new.out.items ++ spaced n k) y in
    let along_z = c.in_ok-put_spaced-2.ensures ∙ ap (λ (k : ℤ). c.put_spaced.new.out.items ++ spaced n k) z in
    on_ok_if _ _ c.extend_from_slice.result c.extend_from_slice.ensures.items
    (after4 (coordinate_text n p.x) (spaced n p.y) (spaced n p.z) (codes "\n") _ _ _ _ along_x along_y along_z)
