use Rattle.std.proofs.Common.{◌*◌}
use Rattle.mesh_place.proofs.Series.{natural_product, sine_by_series}
use Rattle.mesh_place.proofs.maps.series.sine.Goals as goal

pub returns : goal.returns
returns c = λ o u eo eu.
    sine_by_series o u _ c.in_ok-inner.inner _ _
    (c.in_ok-inner.ensures (o * o) (u * u) (natural_product _ _ _ o o c.in_ok-over_squared.ensures eo eo)
    (natural_product _ _ _ u u c.in_ok-under_squared.ensures eu eu))
    eo eu c.in_ok-numerator.ensures c.in_ok-denominator.ensures
