use Rattle.std.proofs.Common.{◌∙◌, ap}
use Rattle.mesh_number.specs.Number.Fractions.{signed_whole}
use Rattle.mesh_place.proofs.Sums.{from_nothing}
use Rattle.mesh_place.proofs.surface.image.decimal_at.Goals as goal

pub returns-clause-value : goal.returns-clause-value
returns-clause-value c =
    from_nothing _ _ _ _ (ap (signed_whole c.in_ok-minus.minus) c.in_ok-digits.ensures.value ∙ c.in_ok-minus.ensures)
    c.in_ok-add_value.ensures c.clear.ensures
