use Rattle.std.proofs.Common.{take}
use Rattle.std.specs.List.{All}
use Rattle.mesh_grid.specs.Grid.Grids.{IsWithinLimit}
use Rattle.mesh_boolean.specs.Files.{AreReadings}
use Rattle.mesh_boolean.proofs.files.surfaces_in.Given as goal

abbrev pub invariant-loop-index : goal.invariant-loop-index
invariant-loop-index g l = record {
  readings : AreReadings (take l.index l.files) l.surfaces.items;
  within : All IsWithinLimit l.surfaces.items;
}
