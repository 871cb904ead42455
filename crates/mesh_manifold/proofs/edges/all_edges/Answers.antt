use Rattle.mesh_manifold.proofs.EdgeLists.{edges_more}
use Rattle.mesh_manifold.proofs.edges.all_edges.Goals as goal

pub loop-index-preserved : goal.loop-index-preserved
loop-index-preserved c =
    edges_more c.args.triangles.now c.loop-index.index _ c.loop-index-test.true c.loop-index.edges.items
    c.push_edges.new.edges.items _ c.loop-index.invariant c.in_ok-push_edges.ensures
