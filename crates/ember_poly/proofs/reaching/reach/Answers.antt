use Rattle.std.proofs.Common.{subst}
use Rattle.ember_poly.specs.Cuts.{IsReach}
use Rattle.ember_poly.specs.Passages.{AreSigns}
use Rattle.ember_poly.proofs.ReachBySigns.{reach_is}
use Rattle.ember_poly.proofs.reaching.reach.Goals as goal

pub returns : goal.returns
returns g c =
    let p = c.args.p.now in let r = c.r.inside in let v = c.r.invariant in
    subst (λ f. IsReach f p c.reach_of_corners.result) c.r.view_is
    (reach_is g.W.Width.spot r.support p r.planes.items r.boundary.edges.items r.boundary.corners.items
    r.boundary.plane_indices.items c.reach_of_corners.result v.corners v.plane_indices v.represents
    (subst (λ ms. AreSigns g.W.Width.spot p ms c.reach_of_corners.result) c.as_slice.ensures.value c.reach_of_corners.ensures))
