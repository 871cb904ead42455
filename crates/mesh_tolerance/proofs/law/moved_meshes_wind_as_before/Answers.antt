use Rattle.mesh_tolerance.proofs.MovedMeshes.{mesh_winds_as_before}
use Rattle.mesh_tolerance.proofs.law.moved_meshes_wind_as_before.Goals as goal

pub returns : goal.returns
returns c = λ ps ls cs faces ts certified size unit to moves. mesh_winds_as_before ps ls cs faces ts certified size unit to moves
