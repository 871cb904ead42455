use Rattle.std.proofs.Common.{◌≡◌, ◌*◌, ◌∙◌, pos, ◌+ℤ◌, ◌*ℤ◌, arith}
use borrow.Author.Differences.{ints}
use mir.Syntax.{w128}
use mir.Val.{to_z, of_z}
use Rattle.std.proofs.lemmas.Int.{to_z-of_z}
use Rattle.mesh_number.specs.Number.Values.{value_of}
use Rattle.mesh_number.proofs.Denominators.{denominator_pos}
use Rattle.mesh_grid.specs.Snap.Cells.{cell_at, cell_of}
use Rattle.mesh_grid.proofs.Floors.{floor_chain}
use Rattle.mesh_grid.proofs.Nearest.{cell_nearest}
use Rattle.mesh_grid.proofs.snap.cells.cell.Goals as goal

stored : (c : goal.After-quotient) → to_z w128 (of_z w128 c.quotient.result) ≡ c.quotient.result
stored c = to_z-of_z w128 c.quotient.result (record { sfits = c.quotient.type_inv })

plain : (c : goal.After-quotient) → c.quotient.result ≡ cell_of c.args.step.now (value_of c.args.number.now)
plain c =
    let s = c.args.step.now in
    let v = value_of c.args.number.now in
    let twice = c.twice_floor-twice.result in
    let numerator = c.from-numerator.result in
    let sum : to_z w128 (of_z w128 (to_z w128 (of_z w128 twice) +ℤ to_z w128 (of_z w128 numerator))) ≡ twice +ℤ numerator =
    omega (arith, ints, c.twice_floor-twice.ensures.small, c.from-numerator.ensures, c.requires.step.numerator_small) in
    let product : to_z w128 (of_z w128 (pos 2 *ℤ to_z w128 (of_z w128 numerator))) ≡ pos 2 *ℤ numerator =
    omega (arith, ints, c.from-numerator.ensures, c.requires.step.numerator_small) in
    c.quotient.ensures ∙ rw (sum, product, c.twice_floor-twice.ensures.value, c.from-numerator.ensures)
    (floor_chain (pos (2 * s.denominator) *ℤ v.numerator) v.denominator s.numerator (2 * s.numerator)
    (denominator_pos c.args.number.now) (omega (arith, c.requires.step.numerator_positive)))

pub returns-clause-value : goal.returns-clause-value
unfolding cell_at
returns-clause-value c = stored c ∙ plain c

pub returns-clause-nearest : goal.returns-clause-nearest
returns-clause-nearest c =
    rw (stored c, plain c) (cell_nearest c.args.step.now (value_of c.args.number.now) (denominator_pos c.args.number.now) c.requires.step.numerator_positive)
