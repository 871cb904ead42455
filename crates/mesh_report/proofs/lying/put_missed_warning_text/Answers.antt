use Rattle.std.proofs.Common.{codes}
use Rattle.mesh_report.specs.Lying.{missed_text}
use Rattle.mesh_number.proofs.Appended.{after2, on_ok_same}
use Rattle.mesh_report.proofs.lying.put_missed_warning_text.Goals as goal

pub returns : goal.returns
returns c =
    on_ok_same _ _ _ c.put_missed.result c.put_missed.ensures
    (after2 (codes "warning: ") (missed_text c.args.name.now c.args.all) _ _ c.in_ok-extend_from_slice.ensures.items)
