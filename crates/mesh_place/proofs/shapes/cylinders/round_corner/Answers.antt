use Rattle.std.proofs.Common.{refl, ◌/◌, ℕ, subst, sym, ◌∙◌}
use Rattle.mesh_place.specs.Integers.{integer_of}
use Rattle.mesh_place.specs.Directions.{IsDirection, direction_of}
use Rattle.mesh_place.proofs.Cylinders.{corner_is_round}
use Rattle.mesh_place.proofs.shapes.cylinders.round_corner.Goals as goal

pub returns : goal.returns
returns c =
    let d = direction_of c.in_ok-cosine.field-0 in
    let right = rw (c.from.ensures, c.from-2.ensures) at c.in_ok-cosine.ensures in
    corner_is_round c.args.sides c.args.index d _ (integer_of c.in_ok-z.z) right refl refl c.in_ok-shift.ensures c.in_ok-z.ensures
    c.in_ok-power_of_ten.ensures
