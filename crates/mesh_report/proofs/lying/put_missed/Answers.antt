use Rattle.std.proofs.Common.{codes}
use Rattle.mesh_report.specs.Lying.{lying_text}
use Rattle.mesh_number.proofs.Appended.{after2, on_ok_if}
use Rattle.mesh_report.proofs.lying.put_missed.Goals as goal

pub returns : goal.returns
returns c =
    on_ok_if _ _ c.extend_from_slice.result c.extend_from_slice.ensures.items
    (after2 (lying_text c.args.name.now 0 c.args.all) (codes "; see where it lies with ember-mesh view") _ _
    c.in_ok-put_lying.ensures)
