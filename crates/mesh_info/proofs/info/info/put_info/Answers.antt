use Rattle.mesh_info.proofs.SaidLines.{info_said}
use Rattle.mesh_info.proofs.info.info.put_info.Goals as goal

pub returns : goal.returns
returns c = info_said c.args.name.now c.args.surface.now c.in_ok-info.info _ _ c.put_line.result c.in_ok-info.ensures c.put_line.ensures
