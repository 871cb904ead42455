use Rattle.mesh_boolean.proofs.ImageLists.{mesh_is_within_limit}
use Rattle.mesh_boolean.proofs.images.given_surface.Goals as goal

pub returns-in-Ok-clause-within : goal.returns-in-Ok-clause-within
returns-in-Ok-clause-within c = mesh_is_within_limit c.in-Ok.mesh c.in-Ok.ensures.ok
