use Rattle.mesh_grid.proofs.Maps.{map_keeps_closed}
use Rattle.mesh_grid.proofs.grid.laws.maps_keep_meshes_closed.Goals as goal

pub returns : goal.returns
returns c = map_keeps_closed
