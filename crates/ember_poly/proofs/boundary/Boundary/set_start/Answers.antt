use Rattle.ember_poly.proofs.PassageSides.{sides_set}
use Rattle.ember_poly.proofs.boundary.Boundary.set_start.Goals as goal

pub returns-clause-order : goal.returns-clause-order
returns-clause-order g c =
    let r = c.args.self.now in
    sides_set g.W.Width.spot c.args.index r.edges.items r.corners.items r.plane_indices.items c.args.corner
