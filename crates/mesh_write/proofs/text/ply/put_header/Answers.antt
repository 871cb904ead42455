use Rattle.mesh_write.specs.Text.Texts.{ply_header}
use Rattle.mesh_number.proofs.Appended.{after5, on_ok_if}
use Rattle.mesh_write.proofs.text.ply.put_header.Goals as goal

pub returns : goal.returns
unfolding ply_header
returns c =
    on_ok_if _ _ c.extend_from_slice-3.result c.extend_from_slice-3.ensures.items
    (after5 _ _ _ _ _ _ _ _ _ _ c.in_ok-extend_from_slice.ensures.items c.in_ok-put_number.ensures
    c.in_ok-extend_from_slice-2.ensures.items c.in_ok-put_number-2.ensures)
