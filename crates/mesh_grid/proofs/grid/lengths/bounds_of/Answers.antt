use mir.Syntax.{w128}
use Rattle.std.proofs.lemmas.Int.{to_z-of_z}
use Rattle.mesh_grid.proofs.BoundSteps.{bound_none, bound_more, bound_all}
use Rattle.mesh_grid.proofs.grid.lengths.bounds_of.Goals as goal

pub loop-number-init : goal.loop-number-init
loop-number-init c =
    rw (to_z-of_z w128 c.cell-first.result (record { sfits = c.cell-first.type_inv }))
    (bound_none c.args.step.now c.args.numbers.now c.index-numbers-0.result c.cell-first.result c.requires.numbers.some
    c.index-numbers-0.is c.cell-first.ensures.value c.cell-first.ensures.small)

pub loop-number-preserved : goal.loop-number-preserved
loop-number-preserved c =
    let stored = to_z-of_z w128 c.cell.result (record { sfits = c.cell.type_inv }) in
    let wide = rw stored at c.widened-bounds.ensures in
    bound_more c.args.step.now c.args.numbers.now c.loop-number.number-index c.loop-number.bounds
    c.widened-bounds.result c.number-item.result c.cell.result c.loop-number.invariant wide c.loop-number-test.true
    c.number-item.is c.cell.ensures.value c.cell.ensures.small

pub returns-clause-bounds : goal.returns-clause-bounds
returns-clause-bounds c = bound_all c.args.step.now c.args.numbers.now c.loop-number.number-index c.loop-number.bounds
    c.loop-number.invariant c.loop-number-test.false

pub returns-clause-least : goal.returns-clause-least
returns-clause-least c = c.loop-number.invariant.least_small

pub returns-clause-greatest : goal.returns-clause-greatest
returns-clause-greatest c = c.loop-number.invariant.greatest_small
