use Rattle.mesh_written.proofs.WrittenClosed.{kept_are_closed}
use Rattle.mesh_written.proofs.triangles.float_triangles.Goals as goal

pub returns-clause-closed : goal.returns-clause-closed
returns-clause-closed c = λ h. kept_are_closed c.args.planes.now c.deref.result.now c.args.triangles.now c.in_ok-written.written.items c.in_ok-written.ensures h
