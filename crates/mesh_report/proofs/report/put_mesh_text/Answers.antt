use Rattle.std.proofs.Common.{codes, decimal}
use Rattle.mesh_report.specs.Reports.{rounding_text}
use Rattle.mesh_number.proofs.Appended.{after7, on_ok_same}
use Rattle.mesh_report.proofs.report.put_mesh_text.Goals as goal

pub returns : goal.returns
returns c =
    let mesh = c.args.mesh.now in
    on_ok_same _ _ _ c.put_move.result c.put_move.ensures
    (after7 (decimal c.args.faces) (codes " faces -> ") (decimal mesh.written) (codes " triangles in ")
    (decimal mesh.planes) (codes " planes; greatest rounding move ") (rounding_text mesh) _ _ _ _ _ _ _
    c.in_ok-put_count.ensures c.in_ok-extend_from_slice.ensures.items c.in_ok-put_count-2.ensures
    c.in_ok-extend_from_slice-2.ensures.items c.in_ok-put_count-3.ensures c.in_ok-extend_from_slice-3.ensures.items)
