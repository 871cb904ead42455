use Rattle.mesh_written.specs.Triangles.{same_point}
use Rattle.mesh_written.specs.Closed.{positions_of}
use Rattle.mesh_written.specs.Shared.{is_lower, key_between, same_ends}
use Rattle.mesh_written.proofs.SharedCounts.{float_keys, noted_none, noted_next, shared_counted}
use Rattle.mesh_written.proofs.shared.shared_edges.Goals as goal

pub loop-t-init : goal.loop-t-init
loop-t-init c = noted_none is_lower key_between same_ends c.new-edges.ensures.once c.new-edges.ensures.again

pub loop-t-preserved : goal.loop-t-preserved
loop-t-preserved c =
    noted_next is_lower key_between same_ends positions_of c.args.written.now c.loop-t.t-index _ c.loop-t-test.true
    (c.in_ok-add_triangle.ensures _ c.loop-t.invariant)

pub returns : goal.returns
returns c =
    shared_counted same_point is_lower key_between same_ends float_keys positions_of c.args.written.now c.loop-t.t-index
    c.len.result c.loop-t-test.false c.loop-t.invariant c.len.ensures.len
