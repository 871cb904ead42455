use Rattle.mesh_written.proofs.WrittenClosed.{certified_are_closed}
use Rattle.mesh_written.proofs.laws.certified_triangles_are_closed.Goals as goal

pub returns : goal.returns
returns c = certified_are_closed
