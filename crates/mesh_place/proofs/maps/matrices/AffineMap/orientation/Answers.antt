use Rattle.std.proofs.Common.{◌∙◌, ap}
use Rattle.ember_algebra.specs.Sign.{sgn}
use Rattle.mesh_place.proofs.Sums.{by_minors}
use Rattle.mesh_place.proofs.maps.matrices.AffineMap.orientation.Goals as goal

pub returns : goal.returns
returns c =
    c.sign.ensures
    ∙ ap sgn (by_minors _ _ _ _ _ _ _ _ _ _ _ _ _ c.nothing-sum.ensures c.in_ok-add.ensures c.in_ok-take.ensures
    c.in_ok-add-2.ensures c.in_ok-by_x.ensures c.in_ok-by_y.ensures c.in_ok-by_z.ensures)
