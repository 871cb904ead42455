use Rattle.mesh_number.proofs.Appended.{after5, on_ok_if}
use Rattle.mesh_info.proofs.page.writing.put_back.Goals as goal

pub returns : goal.returns
returns c =
    on_ok_if _ _ c.extend_from_slice-5.result c.extend_from_slice-5.ensures.items
    (after5 _ _ _ _ _ _ _ _ _ _ c.in_ok-extend_from_slice.ensures.items c.in_ok-extend_from_slice-2.ensures.items
    c.in_ok-extend_from_slice-3.ensures.items c.in_ok-extend_from_slice-4.ensures.items)
