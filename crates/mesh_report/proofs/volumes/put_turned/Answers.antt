use Rattle.std.proofs.Common.{ℤ, ◌++◌, codes, decimal, ap, ◌∙◌, to_z-of_z}
use Rattle.mesh_report.specs.Volumes.{volume_text}
use Rattle.mesh_number.proofs.Appended.{after6, on_ok_if}
use Rattle.mesh_report.proofs.volumes.put_turned.Goals as goal

pub returns : goal.returns
returns c =
    let shown = ap (λ (v : ℤ). c.extend_from_slice-2.new.self.items ++ volume_text c.args.step.now v) (to_z-of_z c.ranges.sixfold_volume) in
    on_ok_if _ _ c.extend_from_slice-4.result c.extend_from_slice-4.ensures.items
    (after6 c.args.name.now (codes ": its volume is ") (volume_text c.args.step.now c.args.sixfold_volume)
    (codes ", so it may be inside out; use w") (decimal c.args.number) (codes "=-1") _ _ _ _ _ _
    c.in_ok-extend_from_slice.ensures.items c.in_ok-extend_from_slice-2.ensures.items
    (c.in_ok-put_volume.ensures ∙ shown) c.in_ok-extend_from_slice-3.ensures.items c.in_ok-put_count.ensures)
