use Rattle.mesh_write.proofs.Meshes.{corners_are_back}
use Rattle.mesh_write.proofs.vertices.laws.indices_lead_to_corners.Goals as goal

pub returns : goal.returns
returns c = corners_are_back
