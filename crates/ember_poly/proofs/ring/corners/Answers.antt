use Rattle.std.proofs.Common.{sym}
use Rattle.ember_poly.proofs.ListOutline.{are_corners}
use Rattle.ember_poly.proofs.ring.corners.Goals as goal

pub returns : goal.returns
returns g c = are_corners g.W.Width.spot c.r.inside.support c.r.inside.planes.items c.r.inside.boundary.edges.items
    c.r.inside.boundary.corners.items c.r.inside.boundary.plane_indices.items c.r.invariant c.args.r.now (sym c.r.view_is)
    c.deref.ensures.value
