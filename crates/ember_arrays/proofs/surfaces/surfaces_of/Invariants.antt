use Rattle.std.proofs.Common.{take}
use Rattle.std.specs.List.{All}
use Rattle.mesh_grid.specs.Grid.Grids.{IsWithinLimit}
use Rattle.ember_arrays.specs.Meshes.{AreSurfacesOf}
use Rattle.ember_arrays.proofs.surfaces.surfaces_of.Given as goal

abbrev pub invariant-loop-index : goal.invariant-loop-index
invariant-loop-index l = record {
  surfaces : AreSurfacesOf (take l.index l.meshes) l.surfaces.items;
  within : All IsWithinLimit l.surfaces.items;
}
