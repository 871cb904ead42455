use Rattle.std.proofs.Common.{subst}
use Rattle.ember_poly.specs.Cuts.{IsReach}
use Rattle.ember_poly.specs.Boundaries.{sides}
use Rattle.ember_poly.specs.Passages.{AreSigns}
use Rattle.ember_poly.proofs.ListOutline.{lent_valid}
use Rattle.ember_poly.proofs.Classification.{straddles_by}
use Rattle.ember_poly.proofs.ClipResult.{reach_seen}
use Rattle.ember_poly.proofs.ChordOfRing.{chord_of}
use Rattle.ember_poly.proofs.meeting.cross.Goals as goal

pub find_passage-passage-requires-clause-edges : goal.find_passage-passage-requires-clause-edges
find_passage-passage-requires-clause-edges g c =
    let r = c.r.inside in
    lent_valid g.W.Width.spot r.support r.planes.items r.boundary.edges.items r.boundary.corners.items r.boundary.plane_indices.items c.r.invariant

pub find_passage-passage-requires-clause-straddles : goal.find_passage-passage-requires-clause-straddles
find_passage-passage-requires-clause-straddles g c =
    let p = c.args.p.now in let e = c.classify-classified in
    straddles_by g.W.Width.spot p c.r.inside.boundary.corners.items e.result.reach
    (subst (λ ms. AreSigns g.W.Width.spot p ms e.result.reach) c.as_slice.ensures.value e.ensures.signs) c.in-Both.is

pub returns-in-Below : goal.returns-in-Below
returns-in-Below g c =
    let f = c.args.r.now in let p = c.args.p.now in let r = c.r.inside in let e = c.classify-classified in
    subst (λ t. IsReach f p t) c.in-Below.is (reach_seen g.W.Width.spot f r.support p r.planes.items r.boundary.edges.items
    r.boundary.corners.items r.boundary.plane_indices.items e.result.reach c.r.view_is c.r.invariant
    (subst (λ ms. AreSigns g.W.Width.spot p ms e.result.reach) c.as_slice.ensures.value e.ensures.signs))

pub returns-in-Above : goal.returns-in-Above
returns-in-Above g c =
    let f = c.args.r.now in let p = c.args.p.now in let r = c.r.inside in let e = c.classify-classified in
    subst (λ t. IsReach f p t) c.in-Above.is (reach_seen g.W.Width.spot f r.support p r.planes.items r.boundary.edges.items
    r.boundary.corners.items r.boundary.plane_indices.items e.result.reach c.r.view_is c.r.invariant
    (subst (λ ms. AreSigns g.W.Width.spot p ms e.result.reach) c.as_slice.ensures.value e.ensures.signs))

pub returns-in-On : goal.returns-in-On
returns-in-On g c =
    let f = c.args.r.now in let p = c.args.p.now in let r = c.r.inside in let e = c.classify-classified in
    subst (λ t. IsReach f p t) c.in-On.is (reach_seen g.W.Width.spot f r.support p r.planes.items r.boundary.edges.items
    r.boundary.corners.items r.boundary.plane_indices.items e.result.reach c.r.view_is c.r.invariant
    (subst (λ ms. AreSigns g.W.Width.spot p ms e.result.reach) c.as_slice.ensures.value e.ensures.signs))

pub returns-in-Both : goal.returns-in-Both
returns-in-Both g c =
    let f = c.args.r.now in let p = c.args.p.now in let r = c.r.inside in let e = c.classify-classified in
    let at = c.find_passage-passage in let q = at.ensures.passage in let s = c.r.invariant.represents in
    let gs = r.planes.items in let xs = sides g.W.Width.spot r.boundary in
    let k = subst (λ t. IsReach f p t) c.in-Both.is
    (reach_seen g.W.Width.spot f r.support p gs r.boundary.edges.items r.boundary.corners.items r.boundary.plane_indices.items
    e.result.reach c.r.view_is c.r.invariant (subst (λ ms. AreSigns g.W.Width.spot p ms e.result.reach) c.as_slice.ensures.value
    e.ensures.signs)) in
    chord_of g.W.Width.spot f r.support p gs xs at.result q s c.r.view_is k
