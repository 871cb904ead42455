use Rattle.std.proofs.Common.{ap, arith, length}
use Rattle.ember_poly.proofs.PassageSides.{sides_put, put_some}
use Rattle.ember_poly.proofs.boundary.Boundary.put.Goals as goal

pub returns-clause-order : goal.returns-clause-order
returns-clause-order g c =
    let r = c.args.self.now in let q = c.requires.paired in let a = c.args.side in
    sides_put g.W.Width.spot r.edges.items r.corners.items r.plane_indices.items q.corners q.plane_indices c.args.from c.args.to
    a.plane a.corner a.plane_index (c.in_ok-replace_between.ensures) (c.in_ok-replace_between-2.ensures)
    (c.in_ok-replace_between-3.ensures)

pub returns-clause-some : goal.returns-clause-some
returns-clause-some g c =
    let a = c.args in
    omega (arith, ap length (c.in_ok-replace_between.ensures), put_some a.from a.to a.side.plane a.self.now.edges.items)
