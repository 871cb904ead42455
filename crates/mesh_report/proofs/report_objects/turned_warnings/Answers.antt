use Rattle.std.proofs.Common.{◌≡◌, List, length, ◌+◌, ◌<◌, ℕ, ℤ, ◌++◌, ap, ◌∙◌, to_z, of_z, to_z-of_z, arith}
use mir.Syntax.{w64}
use Rattle.mesh_texts.specs.Objects.{texts_of}
use Rattle.mesh_report.specs.ReportObjects.{turned_warning}
use Rattle.mesh_report.proofs.FileObjects.{one_warning_more}
use Rattle.mesh_report.proofs.report_objects.turned_warnings.Goals as goal

pub loop-name-preserved : goal.loop-name-preserved
loop-name-preserved c =
    let old = c.loop-name in
    let step = c.args.step.now in
    let before = texts_of old.texts.items in
    let six = c.volume_at-of_file.result in
    let there : old.file < length c.args.sixfold_volumes.now = omega (arith, c.if-file-sixfold_volumes.false) in
    let stored : to_z w64 (of_z w64 six) ≡ six = to_z-of_z {w = w64} (record { sfits = c.volume_at-of_file.type_inv }) in
    let same = ap (λ (v : ℤ). before ++ turned_warning (old.file + 1) c.as_bytes-name.result.now step v) stored in
    let said = ap (λ (name : List ℕ). before ++ turned_warning (old.file + 1) name step six)
    (c.as_bytes-name.ensures.value ∙ c.as_str.ensures) in
    record {
      file = omega (arith, old.invariant.file);
      texts = one_warning_more step c.args.names.now c.args.sixfold_volumes.now (old.file + 1) old.name-index old.file
          c.name-item.result six _ before (texts_of c.put_turned_warning.new.texts.items) c.loop-name-test.true
          c.name-item.is there (c.volume_at-of_file.ensures six) old.invariant.texts
          (c.in_ok-put_turned_warning.ensures ∙ same ∙ said);
    }
