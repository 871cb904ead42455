use Rattle.ember_voxel.proofs.Rows.{RowSet}
use Rattle.ember_voxel.proofs.grid.set_row.Given as goal

abbrev pub invariant-loop-i : goal.invariant-loop-i
invariant-loop-i l = RowSet l.n l.r l.x.from l.i l.initial.rows l.rows
