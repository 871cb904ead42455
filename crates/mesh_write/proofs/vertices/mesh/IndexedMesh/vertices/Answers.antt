use Rattle.std.proofs.Common.{◌∙◌}
use Rattle.mesh_write.proofs.vertices.mesh.IndexedMesh.vertices.Goals as goal

pub returns : goal.returns
returns c = λ ts is. c.as_slice.ensures.keys ∙ is.vertices
