use Rattle.std.proofs.Common.{◌≡◌, ap, ◌∙◌, arith, pos, neg_ℤ, ◌-ℤ◌}
use borrow.Author.Differences.{ints}
use mir.Syntax.{w128}
use mir.Val.{to_z, of_z}
use Rattle.ember_algebra.proofs.Numbers.{unsigned_abs-neg}
use Rattle.mesh_number.specs.Number.Fractions.{floor_of_multiple}
use Rattle.mesh_number.specs.Number.Values.{value_of}
use Rattle.mesh_grid.proofs.AxisMoves.{negated_is_below}
use Rattle.mesh_grid.proofs.moves.axis.ticks_above.Goals as goal

pub ticks_below-floor-requires-clause-below : goal.ticks_below-floor-requires-clause-below
ticks_below-floor-requires-clause-below c = rw c.negated.ensures (negated_is_below (value_of c.args.number.now) c.requires.below)

pub returns-clause-value : goal.returns-clause-value
returns-clause-value c =
    let floor = c.ticks_below-floor.result in
    let stored : to_z w128 (of_z w128 (pos 0 -ℤ to_z w128 (of_z w128 floor))) ≡ neg_ℤ floor = omega (arith, ints, c.ticks_below-floor.ensures.small) in
    stored ∙ ap neg_ℤ c.ticks_below-floor.ensures.value ∙ (λ i. neg_ℤ (floor_of_multiple c.args.factor (c.negated.ensures i)))

pub returns-clause-small : goal.returns-clause-small
returns-clause-small c =
    let floor = c.ticks_below-floor.result in
    let stored : to_z w128 (of_z w128 (pos 0 -ℤ to_z w128 (of_z w128 floor))) ≡ neg_ℤ floor = omega (arith, ints, c.ticks_below-floor.ensures.small) in
    rw (stored, unsigned_abs-neg floor) c.ticks_below-floor.ensures.small
