use Rattle.ember_voxel.proofs.Rows.{LayerSet}
use Rattle.ember_voxel.proofs.grid.set_layer.Given as goal

abbrev pub invariant-loop-j : goal.invariant-loop-j
invariant-loop-j l = LayerSet l.n l.l l.y.from l.j l.x l.initial.rows l.rows
