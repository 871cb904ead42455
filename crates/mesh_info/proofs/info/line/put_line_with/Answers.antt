use Rattle.std.proofs.Common.{ℕ, List, ◌++◌, ap, ◌∙◌}
use Rattle.std.specs.Prelude.{codes}
use Rattle.mesh_number.proofs.Appended.{on_ok_if, after6}
use Rattle.mesh_info.specs.Info.Lines.{head_text, counts_text, key_text, box_text}
use Rattle.mesh_info.proofs.info.line.put_line_with.Goals as goal

pub returns : goal.returns
returns c =
    let info = c.args.info.now in
    let volume = c.in_ok-extend_from_slice.ensures.items ∙ ap (λ (v : List ℕ). c.put_key.new.text.items ++ v) c.as_bytes.ensures.value in
    on_ok_if _ _ c.extend_from_slice-2.result c.extend_from_slice-2.ensures.items
    (after6 (head_text c.args.name.now) (counts_text info) (key_text (codes "volume")) c.args.volume.now (box_text info.bounds) (codes "}\n") _ _ _ _ _ _
    c.in_ok-put_head.ensures c.in_ok-put_counts.ensures c.in_ok-put_key.ensures volume c.in_ok-put_box.ensures)
