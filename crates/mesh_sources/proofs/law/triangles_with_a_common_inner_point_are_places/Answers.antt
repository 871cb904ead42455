use Rattle.mesh_sources.proofs.Inner.{inner_is_place}
use Rattle.mesh_sources.proofs.law.triangles_with_a_common_inner_point_are_places.Goals as goal

pub returns : goal.returns
returns c = inner_is_place
