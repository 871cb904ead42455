use Rattle.std.proofs.Common.{◌≡◌, ap, sym, ◌∙◌, true, false, cond, Some, None}
use Rattle.ember_model.specs.Faces.{is_flat, face_of}
use Rattle.ember_model.proofs.PlaneSizes.{tri_within}
use Rattle.ember_poly.proofs.TriangleRing.{tri_ring, flat_is, face_is}
use Rattle.ember_width.proofs.TakenPlanes.{support_taken, edges_taken}
use Rattle.ember_poly.proofs.ring.of_tri_on.Goals as goal

pub returns-then-has_no_normal : goal.returns-then-has_no_normal
returns-then-has_no_normal g c =
    let t = c.args.t.now in
    let flat : is_flat t ≡ true = flat_is t c.support_of-support.result c.has_no_normal.result
    c.support_of-support.ensures.value c.has_no_normal.ensures ∙ c.if-has_no_normal.true in
    sym (ap (λ b. cond b None (Some (face_of t))) flat)

pub invariant_of-result : goal.invariant_of-result
invariant_of-result g c =
    let t = c.args.t.now in let n = c.support_of-support in let s = c.main_edges-edge_planes in
    let flat : is_flat t ≡ false = flat_is t n.result c.has_no_normal.result n.ensures.value c.has_no_normal.ensures ∙ c.if-has_no_normal.false in
    tri_ring g.W.Width.spot t n.result flat n.ensures.value
    (support_taken g.met.W.Width.takes (n.ensures.within g.W.Width.corner c.requires)) s.ensures.value
    (edges_taken g.met.W.Width.takes _ (s.ensures.within g.W.Width.corner c.requires))
    c.in_ok-planes.ensures c.in_ok-edges.ensures c.in_ok-put_corners.ensures c.in_ok-plane_indices.ensures

pub returns : goal.returns
returns g c =
    let t = c.args.t.now in let n = c.support_of-support in let s = c.main_edges-edge_planes in
    let flat : is_flat t ≡ false = flat_is t n.result c.has_no_normal.result n.ensures.value c.has_no_normal.ensures ∙ c.if-has_no_normal.false in
    face_is t n.result c.in_ok-planes.planes.items flat n.ensures.value (c.in_ok-planes.ensures ∙ s.ensures.value)

pub support_of-support-requires : goal.support_of-support-requires
support_of-support-requires g c = tri_within g.met.W.Width.at_most_broad c.requires

pub main_edges-edge_planes-requires-clause-tri : goal.main_edges-edge_planes-requires-clause-tri
main_edges-edge_planes-requires-clause-tri g c = tri_within g.met.W.Width.at_most_broad c.requires
