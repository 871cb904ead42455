use Rattle.std.proofs.Common.{ap, ◌∙◌}
use Rattle.ember_algebra.specs.declared.Sign.{Sign}
use Rattle.ember_algebra.proofs.Exact.{narrow, ◌&◌, done, exact}
use Rattle.ember_model.specs.Planes.{times_plane, edge_through, unit}
use Rattle.ember_model.proofs.PlaneSizes.{corner_within}
use Rattle.ember_ref.specs.References.{or_sign}
use Rattle.ember_trace.specs.Paths.{path_of, side_at_start, side_at_end, slid_to_lo}
use Rattle.ember_trace.proofs.SegmentSigns.{edge_support}
use Rattle.ember_trace.proofs.VertexSides.{or_first}
use Rattle.ember_trace.proofs.edges.edge_side_after_first.Goals as goal

pub edge_plane_times-requires-clause-from : goal.edge_plane_times-requires-clause-from
edge_plane_times-requires-clause-from g c = corner_within g.met.W.Width.at_most_broad c.requires.from

pub edge_plane_times-requires-clause-to : goal.edge_plane_times-requires-clause-to
edge_plane_times-requires-clause-to g c = corner_within g.met.W.Width.at_most_broad c.requires.to

pub side_at_start-requires : goal.side_at_start-requires
side_at_start-requires g c = edge_support (c.edge_plane_times.ensures.within g.W.Width.corner c.requires.from c.requires.to)

pub returns-in_default : goal.returns-in_default
returns-in_default g c =
    let w = path_of c.args.way.now in let u = c.args.u.now in let v = c.args.v.now in let e = exact (c.requires.s & done) (narrow 0) tt in
    let start = side_at_start w (times_plane c.args.s (edge_through u v (unit w.second_axis))) in
    or_first c.side_by_corners.result start c.in_default.not-Zero
    ∙ ap (λ (s : Sign). or_sign s start) (c.side_by_corners.ensures
    ∙ (λ i. side_at_end w (slid_to_lo w w.main
    (slid_to_lo w w.second_axis (times_plane (e i) (edge_through u v (unit w.second_axis)))))))
