use Rattle.std.proofs.Common.{refl, ◌+◌}
use Rattle.mesh_place.proofs.Images.{image_at_point}
use Rattle.mesh_place.proofs.surface.image.image_of_point.Goals as goal

pub returns : goal.returns
returns c = λ p h.
    image_at_point c.args.map.now c.args.point.now c.in_ok-decimal_at.field-0 c.in_ok-decimal_at-2.field-0
    c.in_ok-decimal_at-3.field-0 c.args.places (c.args.map.now.places + c.args.places) p h refl
    c.in_ok-decimal_at.ensures.places c.in_ok-decimal_at-2.ensures.places c.in_ok-decimal_at-3.ensures.places
    c.in_ok-decimal_at.ensures.value c.in_ok-decimal_at-2.ensures.value c.in_ok-decimal_at-3.ensures.value
