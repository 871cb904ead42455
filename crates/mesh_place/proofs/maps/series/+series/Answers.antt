use Rattle.std.proofs.Common.{◌-◌, arith}
use Rattle.mesh_place.proofs.Series.{series_more}
use Rattle.mesh_place.proofs.maps.series.+series.Goals as goal

pub returns : goal.returns
returns t c = λ o u eo eu.
    series_more c.args.brackets (c.args.brackets - 1) c.args.k o u _ c.in_ok-inner.inner _ _ _ _ _ _ _ _ (omega arith)
    (c.in_ok-inner.ensures o u eo eu) eo eu c.in_ok-divisor.ensures c.in_ok-factor.ensures c.in_ok-whole.ensures
    c.in_ok-one.ensures c.nothing-sum.ensures c.in_ok-add.ensures c.in_ok-take.ensures c.in_ok-numerator.ensures
