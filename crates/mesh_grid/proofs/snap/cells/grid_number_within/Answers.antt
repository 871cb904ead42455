use Rattle.std.proofs.Common.{arith}
use borrow.Author.Differences.{ints}
use Rattle.mesh_grid.proofs.GridSizes.{limits_at_most_broad}
use Rattle.mesh_grid.proofs.snap.cells.grid_number_within.Goals as goal

pub returns-clause-value : goal.returns-clause-value
returns-clause-value c =
    let most = limits_at_most_broad c.args.size in
    omega (arith, ints, most, c.cell.ensures.value, c.cell.ensures.small, c.requires.near.low_enough, c.requires.near.high_enough)

pub returns-clause-small : goal.returns-clause-small
returns-clause-small c =
    let most = limits_at_most_broad c.args.size in
    record { small = omega (arith, ints, most, c.cell.ensures.value, c.cell.ensures.small, c.requires.near.low_enough, c.requires.near.high_enough) }
