use Rattle.std.proofs.Common.{ℤ, ◌++◌, codes, ap, ◌∙◌, to_z-of_z}
use Rattle.mesh_report.specs.Volumes.{volume_text}
use Rattle.mesh_number.proofs.Appended.{after3, on_ok_same}
use Rattle.mesh_report.proofs.volumes.put_plain.Goals as goal

pub returns : goal.returns
returns c =
    let before = c.extend_from_slice-2.new.self.items in
    let shown = ap (λ (v : ℤ). before ++ volume_text c.args.step.now v) (to_z-of_z c.ranges.sixfold_volume) in
    on_ok_same _ _ _ c.put_volume.result c.put_volume.ensures
    (shown ∙ after3 c.args.name.now (codes ": volume ") (volume_text c.args.step.now c.args.sixfold_volume) _ _ _
    c.in_ok-extend_from_slice.ensures.items c.in_ok-extend_from_slice-2.ensures.items)
