use Rattle.std.proofs.Common.{◌+◌, sym, subst}
use Rattle.ember_model.specs.declared.plane.Plane.{Plane}
use Rattle.ember_width.specs.Broad.{IsBroadPlane}
use Rattle.ember_width.proofs.Slides.{slid_within_planes, slid_twice_within_planes}
use Rattle.ember_width.proofs.TakenPlanes.{support_taken}
use Rattle.ember_trace.specs.Paths.{path_of, slid_to_lo}
use Rattle.ember_trace.proofs.Coordinates.{coordinate_small}
use Rattle.ember_trace.proofs.path.Path.side_after_first.Goals as goal

pub slid_to_lo-slid-requires-clause-plane : goal.slid_to_lo-slid-requires-clause-plane
slid_to_lo-slid-requires-clause-plane g c =
    let w = g.met.W.Width in w.is_broad c.args.p.now (support_taken w.takes c.requires)

pub slid_to_lo-slid-requires-clause-stays : goal.slid_to_lo-slid-requires-clause-stays
slid_to_lo-slid-requires-clause-stays g c =
    let w = c.args.self.now in let m = g.W.Width.corner in let law = g.met.W.Width in
    law.is_broad _ (law.takes _ (slid_within_planes m c.args.p.now w.second_axis _ c.requires (coordinate_small (m + 1) w.lo w.second_axis w.within)))

pub slid_to_lo-requires-clause-plane : goal.slid_to_lo-requires-clause-plane
slid_to_lo-requires-clause-plane g c =
    let w = c.args.self.now in let m = g.W.Width.corner in let law = g.met.W.Width in
    subst IsBroadPlane (sym c.slid_to_lo-slid.ensures)
    (law.is_broad _ (law.takes _ (slid_within_planes m c.args.p.now w.second_axis _ c.requires (coordinate_small (m + 1) w.lo w.second_axis w.within))))

pub slid_to_lo-requires-clause-stays : goal.slid_to_lo-requires-clause-stays
slid_to_lo-requires-clause-stays g c =
    let w = c.args.self.now in let m = g.W.Width.corner in let law = g.met.W.Width in
    subst (λ (q : Plane). IsBroadPlane (slid_to_lo (path_of w) w.main q)) (sym c.slid_to_lo-slid.ensures)
    (law.is_broad _ (law.takes _ (slid_twice_within_planes m c.args.p.now w.second_axis w.main _ _ c.requires
    (coordinate_small (m + 1) w.lo w.second_axis w.within) (coordinate_small (m + 1) w.lo w.main w.within))))

pub side_at_end-requires : goal.side_at_end-requires
side_at_end-requires g c =
    let w = c.args.self.now in let m = g.W.Width.corner in let law = g.met.W.Width in
    subst g.W.Width.IsPlane (sym c.slid_to_lo.ensures)
    (subst (λ (q : Plane). g.W.Width.IsPlane (slid_to_lo (path_of w) w.main q)) (sym c.slid_to_lo-slid.ensures)
    (law.takes _ (slid_twice_within_planes m c.args.p.now w.second_axis w.main _ _ c.requires
    (coordinate_small (m + 1) w.lo w.second_axis w.within) (coordinate_small (m + 1) w.lo w.main w.within))))
