use Rattle.std.proofs.Common.{take}
use Rattle.mesh_grid.specs.Grid.Corners.{corners_in}
use Rattle.mesh_grid.specs.Grid.Lists.{HasEntries}
use Rattle.mesh_grid.proofs.grid.coordinates.corner_lists.Given as goal

abbrev pub invariant-loop-surface : goal.invariant-loop-surface
invariant-loop-surface l = HasEntries l.lists (corners_in (take l.surface-index l.surfaces))
