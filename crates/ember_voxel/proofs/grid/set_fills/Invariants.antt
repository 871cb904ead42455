use Rattle.std.proofs.Common.{take}
use Rattle.ember_voxel.proofs.Rows.{FillsSet}
use Rattle.ember_voxel.proofs.grid.set_fills.Given as goal

abbrev pub invariant-loop-fill : goal.invariant-loop-fill
invariant-loop-fill l = FillsSet l.size l.n (take l.fill-index l.fills) l.initial.rows l.rows
