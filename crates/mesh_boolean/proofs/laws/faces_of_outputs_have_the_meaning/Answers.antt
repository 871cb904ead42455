use Rattle.std.proofs.Common.{length}
use Rattle.mesh_scene.specs.Scene.Images.{images_of}
use Rattle.mesh_solid.proofs.SolidFaces.{mesh_faces_mean, mesh_faces_are_closed}
use Rattle.mesh_boolean.proofs.laws.faces_of_outputs_have_the_meaning.Goals as goal

pub returns-clause-means : goal.returns-clause-means
returns-clause-means c = λ files formula wanted out outside is. mesh_faces_mean (images_of out.grid is.surfaces)
    (length is.surfaces) formula is.mesh is.are_placed.scene outside is.solid

pub returns-clause-closed : goal.returns-clause-closed
returns-clause-closed c = λ files formula wanted out outside is. mesh_faces_are_closed (images_of out.grid is.surfaces)
    (length is.surfaces) formula is.mesh is.are_placed.scene outside is.solid
