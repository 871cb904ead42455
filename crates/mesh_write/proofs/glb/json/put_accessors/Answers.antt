use Rattle.mesh_write.specs.Glb.Json.{accessors_text}
use Rattle.mesh_number.proofs.Appended.{after9, on_ok_if}
use Rattle.mesh_write.proofs.glb.json.put_accessors.Goals as goal

pub returns : goal.returns
unfolding accessors_text
returns c =
    on_ok_if _ _ c.extend_from_slice-7.result c.extend_from_slice-7.ensures.items
    (after9 _ _ _ _ _ _ _ _ _ _ _ _ _ _ _ _ _ _ c.in_ok-extend_from_slice.ensures.items c.in_ok-put_accessor.ensures
    c.in_ok-extend_from_slice-2.ensures.items c.in_ok-extend_from_slice-3.ensures.items
    c.in_ok-extend_from_slice-4.ensures.items c.in_ok-extend_from_slice-5.ensures.items
    c.in_ok-extend_from_slice-6.ensures.items c.in_ok-put_accessor-2.ensures)
