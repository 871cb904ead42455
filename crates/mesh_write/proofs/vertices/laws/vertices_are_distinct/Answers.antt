use Rattle.mesh_write.proofs.Meshes.{vertices_distinct}
use Rattle.mesh_write.proofs.vertices.laws.vertices_are_distinct.Goals as goal

pub returns : goal.returns
returns c = vertices_distinct
