use Rattle.std.proofs.Common.{ℤ, ◌++◌, codes, ap, ◌∙◌, to_z-of_z}
use Rattle.mesh_report.specs.Volumes.{turned_text}
use Rattle.mesh_number.proofs.Appended.{after2, on_ok_same}
use Rattle.mesh_report.proofs.volumes.put_inside_out.Goals as goal

pub returns : goal.returns
returns c =
    let a = c.args in
    let same = ap (λ (v : ℤ). c.extend_from_slice.new.self.items ++ turned_text a.number a.name.now a.step.now v) (to_z-of_z c.ranges.sixfold_volume) in
    on_ok_same _ _ _ c.put_turned.result c.put_turned.ensures
    (same ∙ after2 (codes "warning: ") (turned_text a.number a.name.now a.step.now a.sixfold_volume) _ _ c.in_ok-extend_from_slice.ensures.items)
