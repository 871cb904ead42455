use Rattle.std.proofs.Common.{take}
use Rattle.mesh_grid.specs.Moves.Shown.{AreMoves}
use Rattle.mesh_grid.proofs.moves.greatest.greatest_moves.Given as goal

abbrev pub invariant-loop-surface : goal.invariant-loop-surface
invariant-loop-surface l = AreMoves l.grid (take l.surface-index l.surfaces) l.moves.items
