use Rattle.mesh_manifold.proofs.Cuts.{origins_of_more, pieces_more}
use Rattle.mesh_manifold.proofs.cut.cut_at.Goals as goal

pub loop-index-preserved : goal.loop-index-preserved
loop-index-preserved c =
    let es = c.args.edges.now.edges.keys in
    let ps = c.args.vertices.now in
    let ts = c.args.triangles.now in
    let i = c.loop-index.index in
    let put = c.in_ok-push_pieces.ensures in (
      pieces_more es ps ts i _ c.over.result c.push_pieces.new.cut.mesh c.loop-index-test.true c.over.ensures (put.mesh _ c.loop-index.invariant.0),
      origins_of_more es ps ts i _ c.over.result _ _ c.loop-index-test.true c.over.ensures c.loop-index.invariant.1 put.origins,
    )
