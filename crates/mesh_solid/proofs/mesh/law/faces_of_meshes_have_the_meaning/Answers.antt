use Rattle.mesh_solid.proofs.SolidFaces.{mesh_faces_mean, mesh_faces_are_closed}
use Rattle.mesh_solid.proofs.mesh.law.faces_of_meshes_have_the_meaning.Goals as goal

pub returns-clause-means : goal.returns-clause-means
returns-clause-means c = mesh_faces_mean

pub returns-clause-closed : goal.returns-clause-closed
returns-clause-closed c = mesh_faces_are_closed
