use Rattle.std.proofs.Common.{◌∙◌}
use Rattle.ember_poly.proofs.TriangleRing.{tri_ring, tri_face}
use Rattle.ember_width.proofs.TakenPlanes.{tri_support_taken}
use Rattle.ember_poly.proofs.draft.Draft.begin.Goals as goal

pub returns-clause-ring : goal.returns-clause-ring
returns-clause-ring g c =
    let t = c.args.t.now in let q = c.requires in
    tri_ring g.W.Width.spot t c.args.support.now q.normal q.support
    (tri_support_taken g.met.W.Width.takes q.support q.tri) q.edges q.sized
    c.in_ok-refill.ensures c.in_ok-refill-2.ensures c.in_ok-put_corners.ensures c.in_ok-refill-3.ensures

pub returns-clause-face : goal.returns-clause-face
returns-clause-face g c =
    let t = c.args.t.now in let q = c.requires in
    tri_face t c.args.support.now c.refill.new.list.items q.support (c.in_ok-refill.ensures ∙ q.edges)
