use Rattle.mesh_solid.proofs.FaceMeaning.{solid_surface, solid_mesh_means, solid_mesh_winds_once_at_most, solid_mesh_winds_as_faces}
use Rattle.mesh_solid.proofs.FaceMeaning.{solid_mesh_is_closed, document_mesh_is_of_solid, broad_mesh_is_of_solid}
use Rattle.mesh_solid.proofs.mesh.law.meshes_of_solids_have_the_meaning.Goals as goal

pub returns-clause-surface : goal.returns-clause-surface
returns-clause-surface c = solid_surface

pub returns-clause-means : goal.returns-clause-means
returns-clause-means c = solid_mesh_means

pub returns-clause-once : goal.returns-clause-once
returns-clause-once c = solid_mesh_winds_once_at_most

pub returns-clause-faces : goal.returns-clause-faces
returns-clause-faces c = solid_mesh_winds_as_faces

pub returns-clause-closed : goal.returns-clause-closed
returns-clause-closed c = solid_mesh_is_closed

pub returns-clause-narrow : goal.returns-clause-narrow
returns-clause-narrow c = document_mesh_is_of_solid

pub returns-clause-broad : goal.returns-clause-broad
returns-clause-broad c = broad_mesh_is_of_solid
