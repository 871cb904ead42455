use Rattle.mesh_write.specs.Glb.Json.{views_text}
use Rattle.mesh_number.proofs.Appended.{after5, on_ok_if}
use Rattle.mesh_write.proofs.glb.json.put_views.Goals as goal

pub returns : goal.returns
unfolding views_text
returns c =
    on_ok_if _ _ c.extend_from_slice-3.result c.extend_from_slice-3.ensures.items
    (after5 _ _ _ _ _ _ _ _ _ _ c.in_ok-extend_from_slice.ensures.items c.in_ok-put_view.ensures
    c.in_ok-extend_from_slice-2.ensures.items c.in_ok-put_view-2.ensures)
