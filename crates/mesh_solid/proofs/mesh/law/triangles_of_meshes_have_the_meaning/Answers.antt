use Rattle.mesh_solid.proofs.MeshMeaning.{mesh_means, mesh_winds_once_at_most, mesh_winds_as_faces}
use Rattle.mesh_solid.proofs.mesh.law.triangles_of_meshes_have_the_meaning.Goals as goal

pub returns-clause-means : goal.returns-clause-means
returns-clause-means c = mesh_means

pub returns-clause-once : goal.returns-clause-once
returns-clause-once c = mesh_winds_once_at_most

pub returns-clause-faces : goal.returns-clause-faces
returns-clause-faces c = mesh_winds_as_faces
