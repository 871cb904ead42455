use Rattle.std.proofs.Common.{◌≡◌, ◌++◌, ap, ◌∙◌, ℤ, rules}
use Rattle.std.specs.Prelude.{codes}
use mir.Syntax.{w128}
use mir.Val.{to_z, of_z}
use Rattle.mesh_info.specs.Info.Lines.{trillionths_text}
use Rattle.mesh_number.proofs.Appended.{after7}
use Rattle.mesh_info.proofs.info.line.put_point.Goals as goal

pub returns : goal.returns
returns c =
    let p = c.args.point.now in
    let read_x : to_z w128 (of_z w128 p.x) ≡ p.x = search rules in
    let read_y : to_z w128 (of_z w128 p.y) ≡ p.y = search rules in
    let read_z : to_z w128 (of_z w128 p.z) ≡ p.z = search rules in
    let x = c.in_ok-put_trillionths.ensures ∙ ap (λ (n : ℤ). c.push.new.self.items ++ trillionths_text n) read_x in
    let y = c.in_ok-put_trillionths-2.ensures ∙ ap (λ (n : ℤ). c.extend_from_slice.new.self.items ++ trillionths_text n) read_y in
    let z = c.in_ok-put_trillionths-3.ensures ∙ ap (λ (n : ℤ). c.extend_from_slice-2.new.self.items ++ trillionths_text n) read_z in
    c.in_ok-push-2.ensures.items
    ∙ after7 (codes "[") (trillionths_text p.x) (codes ", ") (trillionths_text p.y) (codes ", ") (trillionths_text p.z) (codes "]") _ _ _ _ _ _ _
    c.in_ok-push.ensures.items x c.in_ok-extend_from_slice.ensures.items y c.in_ok-extend_from_slice-2.ensures.items z
