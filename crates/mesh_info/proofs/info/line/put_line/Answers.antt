use Rattle.std.proofs.Common.{sym, subst}
use Rattle.mesh_info.specs.Info.Lines.{IsFloatText}
use Rattle.mesh_info.proofs.SaidLines.{line_said}
use Rattle.mesh_info.proofs.info.line.put_line.Goals as goal

pub returns : goal.returns
returns c =
    let info = c.args.info.now in
    line_said c.args.name.now info c.as_str.result.now _ _ c.put_line_with.result
    (subst (IsFloatText info.volume) (sym c.as_str.ensures.value) c.in_ok-volume.ensures) c.put_line_with.ensures
