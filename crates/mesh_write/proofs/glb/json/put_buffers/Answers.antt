use Rattle.mesh_write.specs.Glb.Json.{buffers_text}
use Rattle.mesh_number.proofs.Appended.{after3, on_ok_if}
use Rattle.mesh_write.proofs.glb.json.put_buffers.Goals as goal

pub returns : goal.returns
unfolding buffers_text
returns c =
    on_ok_if _ _ c.extend_from_slice-2.result c.extend_from_slice-2.ensures.items
    (after3 _ _ _ _ _ _ c.in_ok-extend_from_slice.ensures.items c.in_ok-put_decimal.ensures)
