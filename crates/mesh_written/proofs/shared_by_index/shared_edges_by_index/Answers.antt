use Rattle.std.proofs.Common.{nat_eq, nat_lt}
use Rattle.mesh_written.specs.Closed.{indices_of}
use Rattle.mesh_written.specs.Shared.{index_edge, same_edge}
use Rattle.mesh_written.proofs.SharedCounts.{index_keys, noted_none, noted_next, shared_counted}
use Rattle.mesh_written.proofs.shared_by_index.shared_edges_by_index.Goals as goal

pub loop-t-init : goal.loop-t-init
loop-t-init c = noted_none nat_lt index_edge same_edge c.new-edges.ensures.once c.new-edges.ensures.again

pub loop-t-preserved : goal.loop-t-preserved
loop-t-preserved c =
    noted_next nat_lt index_edge same_edge indices_of c.args.triangles.now c.loop-t.t-index _ c.loop-t-test.true
    (c.in_ok-add_triangle.ensures _ c.loop-t.invariant)

pub returns : goal.returns
returns c =
    shared_counted nat_eq nat_lt index_edge same_edge index_keys indices_of c.args.triangles.now c.loop-t.t-index
    c.len.result c.loop-t-test.false c.loop-t.invariant c.len.ensures.len
