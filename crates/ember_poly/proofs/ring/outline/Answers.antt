use Rattle.std.proofs.Common.{sym}
use Rattle.ember_poly.proofs.ListOutline.{outline_of, lists_have_three, lent_valid}
use Rattle.ember_poly.proofs.ring.outline.Goals as goal

pub returns-clause-outline : goal.returns-clause-outline
returns-clause-outline g c = outline_of g.W.Width.spot c.r.inside.support c.r.inside.planes.items c.r.inside.boundary.edges.items
    c.r.inside.boundary.corners.items c.r.inside.boundary.plane_indices.items c.r.invariant c.args.r.now (sym c.r.view_is)
    c.deref.ensures.value c.deref-2.ensures.value

pub returns-clause-paired : goal.returns-clause-paired
returns-clause-paired g c = rw (c.deref.ensures.value, c.deref-2.ensures.value) c.r.invariant.corners

pub returns-clause-three : goal.returns-clause-three
returns-clause-three g c = rw c.deref.ensures.value
    (lists_have_three g.W.Width.spot c.r.inside.support c.r.inside.planes.items c.r.inside.boundary.edges.items
    c.r.inside.boundary.corners.items c.r.inside.boundary.plane_indices.items c.r.invariant)

pub returns-clause-valid : goal.returns-clause-valid
returns-clause-valid g c = rw c.deref.ensures.value
    (lent_valid g.W.Width.spot c.r.inside.support c.r.inside.planes.items c.r.inside.boundary.edges.items
    c.r.inside.boundary.corners.items c.r.inside.boundary.plane_indices.items c.r.invariant)
