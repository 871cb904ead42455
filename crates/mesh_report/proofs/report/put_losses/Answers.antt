use Rattle.std.proofs.Common.{codes, decimal}
use Rattle.mesh_number.proofs.Appended.{after8, on_ok_if}
use Rattle.mesh_report.proofs.report.put_losses.Goals as goal

pub returns : goal.returns
returns c =
    let mesh = c.args.mesh.now in
    let facings = mesh.effect.facings in
    on_ok_if _ _ c.extend_from_slice-4.result c.extend_from_slice-4.ensures.items
    (after8 (decimal mesh.vanished) (codes " vanished, ") (decimal facings.without_area) (codes " without area, ")
    (decimal facings.turned_over) (codes " turned over; ") (decimal mesh.shared)
    (codes " edges of more than two triangles") _ _ _ _ _ _ _ _
    c.in_ok-put_count.ensures c.in_ok-extend_from_slice.ensures.items c.in_ok-put_count-2.ensures
    c.in_ok-extend_from_slice-2.ensures.items c.in_ok-put_count-3.ensures c.in_ok-extend_from_slice-3.ensures.items
    c.in_ok-put_count-4.ensures)
