use Rattle.std.proofs.Common.{subst, take, ◌+◌}
use Rattle.ember_poly.specs.Passages.{AreSigns}
use Rattle.ember_poly.proofs.CornerSigns.{signs_next, seen_both}
use Rattle.ember_poly.proofs.reaching.reach_of_corners.Goals as goal

pub loop-m-preserved : goal.loop-m-preserved
loop-m-preserved g c =
    let p = c.args.p.now in let ms = c.args.corners.now in let i = c.loop-m.m-index in
    signs_next g.W.Width.spot p ms i c.m-item.result c.with_corner.result c.loop-m-test.true c.m-item.is
    (c.with_corner.ensures p (take i ms) c.m-item.result c.loop-m.invariant c.side.ensures)

pub returns-in-Both : goal.returns-in-Both
returns-in-Both g c =
    let p = c.args.p.now in let ms = c.args.corners.now in let i = c.loop-m.m-index in
    seen_both g.W.Width.spot p ms (i + 1) (subst (λ r. AreSigns g.W.Width.spot p (take (i + 1) ms) r) c.in-Both.is
    (signs_next g.W.Width.spot p ms i c.m-item.result c.with_corner.result c.loop-m-test.true c.m-item.is
    (c.with_corner.ensures p (take i ms) c.m-item.result c.loop-m.invariant c.side.ensures)))
