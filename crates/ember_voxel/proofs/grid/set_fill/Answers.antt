use Rattle.std.proofs.Common.{arith}
use Rattle.ember_voxel.proofs.Ceilings.{few_cells}
use Rattle.ember_voxel.proofs.grid.set_fill.Goals as goal

pub set_block-requires-clause-few : goal.set_block-requires-clause-few
set_block-requires-clause-few c = omega (arith, c.requires.cells, few_cells c.args.size)
