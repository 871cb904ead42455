use Rattle.std.proofs.Common.{◌∙◌, ◌*◌, ◌≤ℤ◌, ◌-ℤ◌, pos, arith}
use borrow.Author.Differences.{ints}
use mir.Syntax.{w128}
use Rattle.std.proofs.lemmas.Int.{to_z-of_z}
use Rattle.mesh_grid.specs.Snap.Sizes.{limit_of}
use Rattle.mesh_grid.proofs.SpanSteps.{covers_none, covers_more, covers_all, widened_small, widened_met, too_wide}
use Rattle.mesh_grid.proofs.snap.spans.fitting_span.Goals as goal

pub loop-number-init : goal.loop-number-init
loop-number-init c =
    rw (to_z-of_z w128 c.cell-first.result (record { sfits = c.cell-first.type_inv }))
    (covers_none (limit_of c.args.size) c.args.step.now c.args.numbers.now c.index-numbers-0.result c.cell-first.result c.requires.numbers.some
    c.index-numbers-0.is c.cell-first.ensures.value c.cell-first.ensures.small)

pub overflow_sub-span : goal.overflow_sub-span
overflow_sub-span c =
    let stored = to_z-of_z w128 c.cell.result (record { sfits = c.cell.type_inv }) in
    let wide = rw stored at c.widened-span.ensures in
    let sizes = widened_small (limit_of c.args.size) c.args.step.now c.args.numbers.now c.loop-number.number-index c.loop-number.span
    c.widened-span.result c.cell.result c.loop-number.invariant wide c.cell.ensures.small in
    omega (arith, ints, sizes.0, sizes.1)

pub returns-then-span-most-clause-none : goal.returns-then-span-most-clause-none
returns-then-span-most-clause-none c =
    let stored = to_z-of_z w128 c.cell.result (record { sfits = c.cell.type_inv }) in
    let wide = rw stored at c.widened-span.ensures in
    let sizes = widened_small (limit_of c.args.size) c.args.step.now c.args.numbers.now c.loop-number.number-index c.loop-number.span
    c.widened-span.result c.cell.result c.loop-number.invariant wide c.cell.ensures.small in
    let reach = to_z-of_z w128 c.steps-most.result (record { sfits = c.steps-most.type_inv }) ∙ c.steps-most.ensures in
    let marks = widened_met (limit_of c.args.size) c.args.step.now c.args.numbers.now c.loop-number.number-index c.loop-number.span
    c.widened-span.result c.number-item.result c.cell.result c.loop-number.invariant wide c.loop-number-test.true
    c.number-item.is c.cell.ensures.value in
    too_wide (limit_of c.args.size) c.args.step.now c.args.numbers.now c.widened-span.result.least c.widened-span.result.greatest marks.0
    marks.1 (omega (arith, ints, sizes.0, sizes.1, reach, c.if-span-most.true))

pub loop-number-preserved : goal.loop-number-preserved
loop-number-preserved c =
    let stored = to_z-of_z w128 c.cell.result (record { sfits = c.cell.type_inv }) in
    let wide = rw stored at c.widened-span.ensures in
    let sizes = widened_small (limit_of c.args.size) c.args.step.now c.args.numbers.now c.loop-number.number-index c.loop-number.span
    c.widened-span.result c.cell.result c.loop-number.invariant wide c.cell.ensures.small in
    let reach = to_z-of_z w128 c.steps-most.result (record { sfits = c.steps-most.type_inv }) ∙ c.steps-most.ensures in
    let narrow : (c.widened-span.result.greatest -ℤ c.widened-span.result.least) ≤ℤ pos (2 * limit_of c.args.size) = omega (arith, ints, sizes.0, sizes.1, reach, c.if-span-most.false) in
    covers_more (limit_of c.args.size) c.args.step.now c.args.numbers.now c.loop-number.number-index c.loop-number.span c.widened-span.result
    c.number-item.result c.cell.result c.loop-number.invariant wide c.loop-number-test.true c.number-item.is
    c.cell.ensures.value c.cell.ensures.small narrow

pub returns-clause-found : goal.returns-clause-found
returns-clause-found c = covers_all (limit_of c.args.size) c.args.step.now c.args.numbers.now c.loop-number.number-index c.loop-number.span
    c.loop-number.invariant c.loop-number-test.false
