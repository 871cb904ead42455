use Rattle.mesh_write.specs.Text.Lines.{indices_line}
use Rattle.mesh_number.proofs.Appended.{after4, on_ok_if}
use Rattle.mesh_write.proofs.text.lines.put_indices.Goals as goal

pub returns : goal.returns
unfolding indices_line
returns c =
    on_ok_if _ _ c.extend_from_slice.result c.extend_from_slice.ensures.items
    (after4 _ _ _ _ _ _ _ _ c.in_ok-put_index.ensures c.in_ok-put_index-2.ensures c.in_ok-put_index-3.ensures)
