use Rattle.ember_poly.proofs.SideLists.{sides-turned}
use Rattle.ember_poly.proofs.boundary.Boundary.rotate.Goals as goal

pub returns-clause-order : goal.returns-clause-order
returns-clause-order g c =
    let r = c.args.self.now in let q = c.requires.paired in
    sides-turned g.W.Width.spot c.args.index r.edges.items _ r.corners.items _ r.plane_indices.items _ q.corners q.plane_indices
    c.begin_at.ensures c.begin_at-2.ensures c.begin_at-3.ensures
