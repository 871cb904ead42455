use Rattle.std.proofs.Common.{◌≡◌, drop, take}
use Rattle.std.specs.List.{All}
use Rattle.mesh_grid.specs.Grid.Grids.{IsWithinLimit}
use Rattle.mesh_boolean.specs.Images.{AllOfThree, IsLent}
use Rattle.mesh_boolean.proofs.images.given_surfaces.Given as goal

abbrev pub invariant-loop-index : goal.invariant-loop-index
invariant-loop-index l = record {
  rest : l.rest.items ≡ drop l.index l.fn.surfaces.items;
  lent : AllOfThree IsLent (take l.index l.images) (take l.index l.fn.surfaces.items) l.given.items;
  within : All IsWithinLimit l.given.items;
}
