use Rattle.std.proofs.Common.{◌≡◌, drop}
use Rattle.std.specs.Prelude.{fold}
use Rattle.mesh_info.specs.Info.Bounds.{widened, box_from}
use Rattle.mesh_info.proofs.info.bounds.box_from.Given as goal

abbrev pub invariant-loop-point : goal.invariant-loop-point
invariant-loop-point l =
    fold widened l.bounds (drop l.point-index l.others) ≡ box_from l.fn.first l.others
