use Rattle.std.proofs.Common.{◌∙◌}
use Rattle.mesh_write.proofs.vertices.mesh.IndexedMesh.triangles.Goals as goal

pub returns : goal.returns
returns c = λ ts is. c.deref.ensures.value ∙ is.triangles
