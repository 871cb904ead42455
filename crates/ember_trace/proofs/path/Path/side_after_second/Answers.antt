use Rattle.std.proofs.Common.{◌+◌, sym, subst}
use Rattle.ember_width.proofs.Slides.{slid_within_planes}
use Rattle.ember_width.proofs.TakenPlanes.{support_taken}
use Rattle.ember_trace.proofs.Coordinates.{coordinate_small}
use Rattle.ember_trace.proofs.path.Path.side_after_second.Goals as goal

pub slid_to_lo-requires-clause-plane : goal.slid_to_lo-requires-clause-plane
slid_to_lo-requires-clause-plane g c =
    let w = g.met.W.Width in w.is_broad c.args.p.now (support_taken w.takes c.requires)

pub slid_to_lo-requires-clause-stays : goal.slid_to_lo-requires-clause-stays
slid_to_lo-requires-clause-stays g c =
    let w = c.args.self.now in let m = g.W.Width.corner in let law = g.met.W.Width in
    law.is_broad _ (law.takes _ (slid_within_planes m c.args.p.now w.main _ c.requires (coordinate_small (m + 1) w.lo w.main w.within)))

pub side_at_end-requires : goal.side_at_end-requires
side_at_end-requires g c =
    let w = c.args.self.now in let m = g.W.Width.corner in
    subst g.W.Width.IsPlane (sym c.slid_to_lo.ensures)
    (g.met.W.Width.takes _ (slid_within_planes m c.args.p.now w.main _ c.requires (coordinate_small (m + 1) w.lo w.main w.within)))
