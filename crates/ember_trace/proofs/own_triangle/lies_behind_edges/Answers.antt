use Rattle.ember_trace.proofs.OwnTriangles.{behind_edges}
use Rattle.ember_trace.proofs.own_triangle.lies_behind_edges.Goals as goal

pub returns : goal.returns
returns g c =
    let f = c.args.triangle.now in
    λ t. behind_edges c.args.r.now f.tri f.edges f.edge_planes (c.lies_behind.ensures c.if-not-lies_behind.false)
    (c.lies_behind-2.ensures c.if-not-lies_behind-2.false) (c.lies_behind-3.ensures t)
