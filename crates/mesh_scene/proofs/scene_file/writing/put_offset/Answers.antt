use Rattle.std.proofs.Common.{◌≡◌, ◌++◌, ℤ, ap, ◌∙◌, rules}
use Rattle.std.specs.Fmt.{signed_decimal}
use mir.Syntax.{w128}
use mir.Val.{to_z, of_z}
use Rattle.mesh_scene.specs.SceneFile.Texts.{offset_text, next_text}
use Rattle.mesh_number.proofs.Appended.{after5, on_ok_if}
use Rattle.mesh_scene.proofs.scene_file.writing.put_offset.Goals as goal

pub returns : goal.returns
unfolding offset_text
returns c =
    let o = c.args.offset.now in
    let read_x : to_z w128 (of_z w128 o.x) ≡ o.x = search rules in
    let read_y : to_z w128 (of_z w128 o.y) ≡ o.y = search rules in
    let read_z : to_z w128 (of_z w128 o.z) ≡ o.z = search rules in
    let x = c.in_ok-put_whole.ensures ∙ ap (λ (n : ℤ). c.extend_from_slice.new.self.items ++ signed_decimal n) read_x in
    let y = c.in_ok-put_next.ensures ∙ ap (λ (n : ℤ). c.put_whole.new.text.items ++ next_text n) read_y in
    let z = c.in_ok-put_next-2.ensures ∙ ap (λ (n : ℤ). c.put_next.new.text.items ++ next_text n) read_z in
    on_ok_if _ _ c.extend_from_slice-2.result c.extend_from_slice-2.ensures.items
    (after5 _ _ _ _ _ _ _ _ _ _ c.in_ok-extend_from_slice.ensures.items x y z)
