use Rattle.std.proofs.Common.{◌*ℤ◌}
use Rattle.mesh_place.specs.Integers.{integer_of, sum_of}
use Rattle.mesh_place.proofs.Sums.{four_added}
use Rattle.mesh_place.proofs.maps.affine.add_value.Goals as goal

pub returns : goal.returns
returns c =
    four_added (sum_of c.args.sum.now) _ _ _ _ _ _ _ _ c.in_ok-add-4.ensures c.in_ok-add-3.ensures c.in_ok-add-2.ensures
    c.in_ok-add.ensures
