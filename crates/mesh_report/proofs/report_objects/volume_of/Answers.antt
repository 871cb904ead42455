use Rattle.std.proofs.Common.{◌≡◌, ◌<◌, length, drop, drop-cons, Vec, ℕ, Global, ap, sym, ◌∙◌, to_z, of_z, to_z-of_z, arith}
use mir.Syntax.{w64}
use Rattle.std.proofs.lemmas.Result.{IfOk-weaker}
use Rattle.mesh_report.specs.ReportObjects.{first_volume, volume_value}
use Rattle.mesh_report.proofs.report_objects.volume_of.Goals as goal

pub returns : goal.returns
returns c =
    let step = c.args.step.now in
    let all = c.args.sixfold_volumes.now in
    let six = c.volume_at.result in
    let inside : c.args.index < length all = omega (arith, c.if-index-sixfold_volumes.false) in
    let stored : to_z w64 (of_z w64 six) ≡ six = to_z-of_z {w = w64} (record { sfits = c.volume_at.type_inv }) in
    let first : volume_value step six ≡ first_volume step (drop c.args.index all) =
    ap (volume_value step) (c.volume_at.ensures six) ∙ sym (ap (first_volume step) (drop-cons all c.args.index six inside)) in
    IfOk-weaker c.volume_value.result _ (λ (text : Vec ℕ Global). text.items ≡ first_volume step (drop c.args.index all))
    (λ text is. is ∙ ap (volume_value step) stored ∙ first) c.volume_value.ensures
