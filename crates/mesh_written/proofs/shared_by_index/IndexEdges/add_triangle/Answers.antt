use Rattle.std.proofs.Common.{nat_lt}
use Rattle.mesh_written.specs.Closed.{indices_of}
use Rattle.mesh_written.specs.Shared.{index_edge, same_edge}
use Rattle.mesh_written.proofs.Noted.{on_ok_then}
use Rattle.mesh_written.proofs.SharedCounts.{noted_triangle}
use Rattle.mesh_written.proofs.shared_by_index.IndexEdges.add_triangle.Goals as goal

pub returns : goal.returns
returns c =
    on_ok_then c.add_rising-3.result c.add_rising-3.ensures
    (λ more edges h. noted_triangle nat_lt index_edge same_edge (indices_of c.args.t.now) edges
    (more _ (c.in_ok-add_rising-2.ensures _ (c.in_ok-add_rising.ensures edges h))))
