use Rattle.mesh_grid.proofs.BoundSteps.{BoundFirst}
use Rattle.mesh_grid.proofs.grid.lengths.bounds_of.Given as goal

abbrev pub invariant-loop-number : goal.invariant-loop-number
invariant-loop-number l = BoundFirst l.step l.numbers l.number-index l.bounds
