use Rattle.std.proofs.Common.{◌≡◌, ℤ, pos, ◌++◌, Bool, true, if◌then◌else◌, ap, sym, ◌∙◌, to_z-of_z, rules}
use Rattle.std.specs.Prelude.{int_lt}
use Rattle.mesh_report.specs.Volumes.{inside_out_text, plain_text}
use Rattle.mesh_number.proofs.Appended.{on_ok_same}
use Rattle.mesh_report.proofs.volumes.put_said.Goals as goal

pub returns-then-sixfold_volume-lt0 : goal.returns-then-sixfold_volume-lt0
returns-then-sixfold_volume-lt0 c =
    let a = c.args in
    let turned = inside_out_text a.number a.name.now a.step.now in
    let below : int_lt a.sixfold_volume (pos 0) ≡ true = search rules in
    on_ok_same _ _ _ c.put_inside_out.result c.put_inside_out.ensures
    (ap (λ (v : ℤ). a.text.now.items ++ turned v) (to_z-of_z c.ranges.sixfold_volume)
    ∙ ap (λ (b : Bool). a.text.now.items ++ (if b then turned a.sixfold_volume
    else plain_text a.name.now a.step.now a.sixfold_volume)) (sym below))
