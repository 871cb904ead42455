use Rattle.std.proofs.Common.{◌*◌}
use Rattle.mesh_place.proofs.Series.{natural_product, cosine_by_series}
use Rattle.mesh_place.proofs.maps.series.cosine.Goals as goal

pub returns : goal.returns
returns c = λ o u eo eu.
    cosine_by_series o u _ (c.in_ok-ratio.ensures (o * o) (u * u) (natural_product _ _ _ o o c.in_ok-over_squared.ensures eo eo)
    (natural_product _ _ _ u u c.in_ok-under_squared.ensures eu eu))
