-- The sizes of grids
use Rattle.std.proofs.Common.{◌≤◌, lit≤}
use Rattle.ember_model.specs.Limits.{broad_limit}
use Rattle.mesh_grid.specs.declared.snap.sizes.GridSize.{GridSize}
use Rattle.mesh_grid.specs.declared.snap.sizes.GridSize.TheVariants.{Narrow, Broad}
use Rattle.mesh_grid.specs.Snap.Sizes.{limit_of}

-- no grid reaches beyond the broad one
pub limits_at_most_broad : (size : GridSize) → limit_of size ≤ broad_limit
limits_at_most_broad Narrow = lit≤ tt
limits_at_most_broad Broad = lit≤ tt
