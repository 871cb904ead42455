use Rattle.std.proofs.Common.{subst, All}
use Rattle.ember_model.specs.declared.face.Face.{Face}
use Rattle.ember_poly.specs.Bounds.{IsBoundedBy}
use Rattle.ember_poly.proofs.BoundedRings.{ring_bounded}
use Rattle.ember_poly.proofs.law.rings_are_bounded.Goals as goal

pub returns-clause-support : goal.returns-clause-support
returns-clause-support g c = subst (λ (f : Face). g.W.Width.IsPlane f.support) c.r.view_is c.r.invariant.support

pub returns-clause-edges : goal.returns-clause-edges
returns-clause-edges g c = subst (λ (f : Face). All g.W.Width.IsPlane f.edges) c.r.view_is c.r.invariant.planes

pub returns-clause-bounded : goal.returns-clause-bounded
returns-clause-bounded g c = λ p.
    subst (λ f. IsBoundedBy p f) c.r.view_is (ring_bounded g.W.Width.spot c.r.inside.support p c.r.inside.planes.items
    c.r.inside.boundary.edges.items c.r.inside.boundary.corners.items c.r.inside.boundary.plane_indices.items
    c.r.invariant)
