use Rattle.mesh_grid.proofs.MarkedSquares.{IsFirstGreatest}
use Rattle.mesh_grid.proofs.moves.greatest.greatest_of_marked.Given as goal

abbrev pub invariant-loop-index : goal.invariant-loop-index
invariant-loop-index l = IsFirstGreatest l.grid.step l.fineness l.surface l.marks l.index l.greatest
