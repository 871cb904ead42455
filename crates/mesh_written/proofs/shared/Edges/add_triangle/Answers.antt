use Rattle.mesh_written.specs.Closed.{positions_of}
use Rattle.mesh_written.specs.Shared.{is_lower, key_between, same_ends}
use Rattle.mesh_written.proofs.Noted.{on_ok_then}
use Rattle.mesh_written.proofs.SharedCounts.{noted_triangle}
use Rattle.mesh_written.proofs.shared.Edges.add_triangle.Goals as goal

pub returns : goal.returns
returns c =
    on_ok_then c.add_rising-3.result c.add_rising-3.ensures
    (λ more keys h. noted_triangle is_lower key_between same_ends (positions_of c.args.t.now) keys
    (more _ (c.in_ok-add_rising-2.ensures _ (c.in_ok-add_rising.ensures keys h))))
