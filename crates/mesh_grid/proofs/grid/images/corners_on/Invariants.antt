use Rattle.mesh_grid.proofs.GridCorners.{AreFirstCorners}
use Rattle.mesh_grid.proofs.grid.images.corners_on.Given as goal

abbrev pub invariant-loop-index : goal.invariant-loop-index
invariant-loop-index l = AreFirstCorners l.grid l.vertices l.marks.items l.index l.corners.items
