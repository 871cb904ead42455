use Rattle.std.proofs.Common.{take}
use Rattle.mesh_grid.specs.Grid.Corners.{corner_at}
use Rattle.mesh_grid.specs.Grid.Images.{AreSnapped}
use Rattle.mesh_grid.proofs.grid.snapping.snap_all.Given as goal

abbrev pub invariant-loop-facet : goal.invariant-loop-facet
invariant-loop-facet l = AreSnapped (corner_at l.grid l.surface.vertices.items) l.mesh (take l.facet-index l.facets) l.snapping
