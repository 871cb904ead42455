use Rattle.mesh_written.proofs.Proper.{proper_corners}
use Rattle.mesh_written.proofs.laws.proper_triangles_have_corners.Goals as goal

pub returns : goal.returns
returns c = proper_corners
