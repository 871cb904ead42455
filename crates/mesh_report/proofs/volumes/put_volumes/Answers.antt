use Rattle.std.proofs.Common.{◌≡◌, List, length, ◌+◌, ◌<◌, ℕ, ℤ, ◌++◌, ap, ◌∙◌, to_z, of_z, to_z-of_z, arith}
use mir.Syntax.{w64}
use Rattle.mesh_report.specs.Volumes.{volume_line}
use Rattle.mesh_report.proofs.VolumeLines.{one_volume_more}
use Rattle.mesh_report.proofs.volumes.put_volumes.Goals as goal

pub loop-name-preserved : goal.loop-name-preserved
loop-name-preserved c =
    let old = c.loop-name in
    let step = c.args.step.now in
    let six = c.volume_at-of_file.result in
    let there : old.file < length c.args.sixfold_volumes.now = omega (arith, c.if-file-sixfold_volumes.false) in
    let stored : to_z w64 (of_z w64 six) ≡ six = to_z-of_z {w = w64} (record { sfits = c.volume_at-of_file.type_inv }) in
    let same = ap (λ (v : ℤ). old.text.items ++ volume_line (old.file + 1) c.as_bytes-name.result.now step v) stored in
    let said = ap (λ (name : List ℕ). old.text.items ++ volume_line (old.file + 1) name step six)
    (c.as_bytes-name.ensures.value ∙ c.as_str.ensures) in
    record {
      file = omega (arith, old.invariant.file);
      text = one_volume_more step c.args.names.now c.args.sixfold_volumes.now (old.file + 1) old.name-index old.file
          c.name-item.result six _ old.text.items c.put_volume_line.new.text.items c.loop-name-test.true c.name-item.is
          there (c.volume_at-of_file.ensures six) old.invariant.text (c.in_ok-put_volume_line.ensures ∙ same ∙ said);
    }
