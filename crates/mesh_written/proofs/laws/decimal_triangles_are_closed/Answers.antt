use Rattle.mesh_written.proofs.DecimalsClosed.{decimals_are_closed, indices_are_closed}
use Rattle.mesh_written.proofs.laws.decimal_triangles_are_closed.Goals as goal

pub returns-clause-by_points : goal.returns-clause-by_points
returns-clause-by_points c = decimals_are_closed

pub returns-clause-by_vertices : goal.returns-clause-by_vertices
returns-clause-by_vertices c = indices_are_closed
