use Rattle.std.proofs.Common.{◌≡◌, ◌≤◌, ◌*◌, mul-pos, arith}
use mir.Syntax.{w128}
use Rattle.std.proofs.lemmas.Int.{to_z-of_z}
use Rattle.mesh_number.specs.Number.Values.{value_of}
use Rattle.mesh_number.proofs.Denominators.{denominator_pos}
use Rattle.mesh_grid.specs.Moves.Moves.{ticks_of}
use Rattle.mesh_grid.proofs.AxisMoves.{distance_is_ticks}
use Rattle.mesh_grid.proofs.moves.axis.ticks_of.Goals as goal

pub rest_of-rest-requires-clause-positive : goal.rest_of-rest-requires-clause-positive
rest_of-rest-requires-clause-positive c = mul-pos c.requires.step.numerator_positive c.requires.fineness.positive

ticks : (c : goal.After-distance) → (c.distance.result ≡ ticks_of c.args.step.now c.args.fineness
    (value_of c.args.number.now)) × (c.distance.result ≤ c.args.step.now.numerator * c.args.fineness)
ticks c =
    let low = to_z-of_z w128 c.ticks_below-low.result (record { sfits = c.ticks_below-low.type_inv }) in
    let high = to_z-of_z w128 c.ticks_above-high.result (record { sfits = c.ticks_above-high.type_inv }) in
    let rest = to_z-of_z w128 c.rest_of-rest.result (record { sfits = c.rest_of-rest.type_inv }) in
    let left = rw low at c.rest_of-rest.ensures.value in
    let greater = rw (low, high, rest) at c.distance.ensures in
    distance_is_ticks c.args.step.now c.args.fineness (value_of c.args.number.now) c.ticks_below-low.result
    c.ticks_above-high.result c.rest_of-rest.result c.distance.result c.requires.fineness.positive
    (denominator_pos c.args.number.now) c.requires.step.numerator_positive c.ticks_below-low.ensures.value
    c.ticks_above-high.ensures.value left greater

pub returns-clause-value : goal.returns-clause-value
returns-clause-value c = (ticks c).0

pub returns-clause-small : goal.returns-clause-small
returns-clause-small c = let most = (ticks c).1 in omega (arith, most, c.requires.fineness.half_step)
