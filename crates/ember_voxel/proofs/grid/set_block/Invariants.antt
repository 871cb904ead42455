use Rattle.ember_voxel.proofs.Rows.{BlockSet}
use Rattle.ember_voxel.proofs.grid.set_block.Given as goal

abbrev pub invariant-loop-l : goal.invariant-loop-l
invariant-loop-l l = BlockSet l.n l.block.z.from l.l l.block.x l.block.y l.initial.rows l.rows
