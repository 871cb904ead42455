use Rattle.std.proofs.Common.{◌<◌, ◌*◌, refl, mul-pos, arith}
use Rattle.mesh_grid.proofs.moves.shown.length_of.Goals as goal

pub places_of-places-requires-clause-positive : goal.places_of-places-requires-clause-positive
places_of-places-requires-clause-positive c =
    let some : 0 < c.args.step.now.denominator * c.args.fineness = mul-pos c.requires.step.denominator_positive c.requires.fineness.positive in
    rw c.from-under.ensures (omega (arith, some))

pub rounded_up-size-requires-clause-positive : goal.rounded_up-size-requires-clause-positive
rounded_up-size-requires-clause-positive c =
    let some : 0 < c.args.step.now.denominator * c.args.fineness = mul-pos c.requires.step.denominator_positive c.requires.fineness.positive in
    rw c.from-under.ensures (omega (arith, some))

pub returns : goal.returns
returns c =
    rw (c.rounded_up-size.ensures.value, c.places_of-places.ensures.value, c.root_above-root.ensures.root, c.from-under.ensures) refl
