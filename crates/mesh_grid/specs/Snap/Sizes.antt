-- The sizes of grids
use Rattle.std.specs.Prelude.{ℕ}
use Rattle.ember_model.specs.Limits.{narrow_limit, broad_limit}
use Rattle.mesh_grid.specs.declared.snap.sizes.GridSize.{GridSize}
use Rattle.mesh_grid.specs.declared.snap.sizes.GridSize.TheVariants.{Narrow, Broad}

-- the greatest number on the grid
abbrev pub limit_of : GridSize → ℕ
limit_of Narrow = narrow_limit
limit_of Broad = broad_limit
