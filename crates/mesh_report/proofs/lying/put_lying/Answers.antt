use Rattle.std.proofs.Common.{codes, decimal}
use Rattle.mesh_number.proofs.Appended.{after6, on_ok_if}
use Rattle.mesh_report.proofs.lying.put_lying.Goals as goal

pub returns : goal.returns
returns c =
    on_ok_if _ _ c.extend_from_slice-4.result c.extend_from_slice-4.ensures.items
    (after6 c.args.name.now (codes ": ") (decimal c.args.count) (codes " of ") (decimal c.args.all)
    (codes " triangles of the result lie on it") _ _ _ _ _ _
    c.in_ok-extend_from_slice.ensures.items c.in_ok-extend_from_slice-2.ensures.items c.in_ok-put_count.ensures
    c.in_ok-extend_from_slice-3.ensures.items c.in_ok-put_count-2.ensures)
