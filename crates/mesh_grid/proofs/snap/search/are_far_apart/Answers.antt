use Rattle.std.proofs.Common.{arith}
use borrow.Author.Differences.{ints}
use Rattle.mesh_grid.specs.Snap.Sizes.{limit_of}
use Rattle.mesh_grid.proofs.SpanSteps.{cell_is_met, too_wide}
use Rattle.mesh_grid.proofs.snap.search.are_far_apart.Goals as goal

pub returns : goal.returns
returns c =
    λ far. too_wide (limit_of c.args.size) c.args.step.now c.args.numbers.now c.cell-2.result c.cell.result
    (cell_is_met c.args.step.now c.args.numbers.now c.args.ends.now.low c.index-numbers-ends-2.result c.cell-2.result
    c.requires.ends.low c.index-numbers-ends-2.is c.cell-2.ensures.value)
    (cell_is_met c.args.step.now c.args.numbers.now c.args.ends.now.high c.index-numbers-ends.result c.cell.result
    c.requires.ends.high c.index-numbers-ends.is c.cell.ensures.value)
    (omega (arith, ints, c.cell.ensures.small, c.cell-2.ensures.small, c.steps-most.ensures, far))
