use Rattle.mesh_place.specs.Integers.{integer_of, sum_of}
use Rattle.mesh_place.proofs.Sums.{from_nothing}
use Rattle.mesh_place.proofs.maps.affine.value_at.Goals as goal

pub returns : goal.returns
returns c = from_nothing _ _ _ _ c.in_ok-value.ensures c.in_ok-add_value.ensures c.nothing-sum.ensures
