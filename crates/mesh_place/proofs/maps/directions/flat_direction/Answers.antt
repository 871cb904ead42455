use Rattle.std.proofs.Common.{◌≡◌, ◌*◌, ◌^◌, ◌<◌, ◌∙◌, ap, pos, arith}
use Rattle.mesh_place.specs.Integers.{integer_of}
use Rattle.mesh_place.specs.Directions.{cosine_of, sine_of, pi}
use Rattle.mesh_place.proofs.Series.{natural_product, positive_digits, cosine_positive, sine_positive}
use Rattle.mesh_place.proofs.maps.directions.flat_direction.Goals as goal

pub nearest_units-requires : goal.nearest_units-requires
nearest_units-requires c =
    let part = c.args.part in let whole = c.args.whole in
    let over = natural_product _ _ _ pi part c.in_ok-over.ensures c.in_ok-pi.ensures (c.in_ok-parts.ensures ∙ ap pos c.from.ensures) in
    let under = natural_product _ _ _ (2 * 10 ^ 38) whole c.in_ok-under.ensures c.in_ok-units.ensures (c.in_ok-wholes.ensures ∙ ap pos c.from-2.ensures) in
    let positive : 0 < 2 * 10 ^ 38 * whole = omega (arith, c.requires) in
    positive_digits _ (cosine_of (pi * part) (2 * 10 ^ 38 * whole)) (c.in_ok-along.ensures (pi * part) (2 * 10 ^ 38 * whole) over under)
    (cosine_positive (pi * part) (2 * 10 ^ 38 * whole) positive)

pub nearest_units-requires-2 : goal.nearest_units-requires-2
nearest_units-requires-2 c =
    let part = c.args.part in let whole = c.args.whole in
    let over = natural_product _ _ _ pi part c.in_ok-over.ensures c.in_ok-pi.ensures (c.in_ok-parts.ensures ∙ ap pos c.from.ensures) in
    let under = natural_product _ _ _ (2 * 10 ^ 38) whole c.in_ok-under.ensures c.in_ok-units.ensures (c.in_ok-wholes.ensures ∙ ap pos c.from-2.ensures) in
    let positive : 0 < 2 * 10 ^ 38 * whole = omega (arith, c.requires) in
    positive_digits _ (sine_of (pi * part) (2 * 10 ^ 38 * whole)) (c.in_ok-across.ensures (pi * part) (2 * 10 ^ 38 * whole) over under)
    (sine_positive (pi * part) (2 * 10 ^ 38 * whole) positive)
