use Rattle.mesh_sources.proofs.Inner.{inner_not_apart}
use Rattle.mesh_sources.proofs.law.triangles_with_a_common_inner_point_are_not_apart.Goals as goal

pub returns : goal.returns
returns c = inner_not_apart
