use Rattle.ember_model.specs.Within.{normal_limit}
use Rattle.ember_width.proofs.TakenPlanes.{support_taken}
use Rattle.ember_ref.proofs.ReferenceLegs.{box_corner}
use Rattle.ember_trace.proofs.path.Path.side_at_start.Goals as goal

pub side_beside-requires-clause-plane : goal.side_beside-requires-clause-plane
side_beside-requires-clause-plane g c =
    let w = g.met.W.Width in w.is_broad c.args.p.now (support_taken w.takes c.requires)

pub side_beside-requires-clause-corner : goal.side_beside-requires-clause-corner
side_beside-requires-clause-corner g c = box_corner c.args.self.now.lo c.args.self.now.small

pub returns : goal.returns
returns g c =
    let s = c.requires in
    c.side_beside.ensures.value (normal_limit g.W.Width.corner) g.W.Width.fine (record { a = s.a; b = s.b; c = s.c }) g.met.W.Width.tells_apart
