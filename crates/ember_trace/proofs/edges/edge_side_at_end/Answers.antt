use Rattle.std.proofs.Common.{◌∙◌}
use Rattle.ember_algebra.proofs.Exact.{narrow, ◌&◌, done, exact}
use Rattle.ember_model.specs.Planes.{times_plane, edge_through, unit}
use Rattle.ember_model.proofs.PlaneSizes.{corner_within}
use Rattle.ember_trace.specs.Edges.{edge_times, side_at}
use Rattle.ember_trace.specs.Paths.{path_of}
use Rattle.ember_trace.proofs.ThreeCorners.{by_first, by_next, by_last}
use Rattle.ember_trace.proofs.edges.edge_side_at_end.Goals as goal

pub line_of_edge-line-requires-clause-from : goal.line_of_edge-line-requires-clause-from
line_of_edge-line-requires-clause-from g c = corner_within g.met.W.Width.at_most_broad c.requires.from

pub line_of_edge-line-requires-clause-to : goal.line_of_edge-line-requires-clause-to
line_of_edge-line-requires-clause-to g c = corner_within g.met.W.Width.at_most_broad c.requires.to

pub returns-in_default : goal.returns-in_default
returns-in_default g c =
    let w = path_of c.args.way.now in let u = c.args.u.now in let v = c.args.v.now in let k = c.args.k in let e = exact (c.requires.s & done) (narrow 0) tt in
    by_first w (edge_times u v k c.args.s) c.corner_side.result
    (c.corner_side.ensures ∙ c.line_of_edge-line.ensures w.first_corner
    ∙ (λ i. side_at (times_plane (e i) (edge_through u v (unit k))) w.first_corner)) c.in_default.not-Zero

pub returns-in_default-corner_side : goal.returns-in_default-corner_side
returns-in_default-corner_side g c =
    let w = path_of c.args.way.now in let u = c.args.u.now in let v = c.args.v.now in let k = c.args.k in let e = exact (c.requires.s & done) (narrow 0) tt in
    by_next w (edge_times u v k c.args.s) c.corner_side.result c.corner_side-in-Zero.result
    (c.corner_side.ensures ∙ c.line_of_edge-line.ensures w.first_corner
    ∙ (λ i. side_at (times_plane (e i) (edge_through u v (unit k))) w.first_corner)) c.in-Zero.is
    (c.corner_side-in-Zero.ensures ∙ c.line_of_edge-line.ensures w.second_corner
    ∙ (λ i. side_at (times_plane (e i) (edge_through u v (unit k))) w.second_corner))
    c.in_default-corner_side.not-Zero

pub returns-in-Zero-corner_side : goal.returns-in-Zero-corner_side
returns-in-Zero-corner_side g c =
    let w = path_of c.args.way.now in let u = c.args.u.now in let v = c.args.v.now in let k = c.args.k in let e = exact (c.requires.s & done) (narrow 0) tt in
    by_last w (edge_times u v k c.args.s) c.corner_side.result c.corner_side-in-Zero.result
    c.corner_side-in-Zero-corner_side.result
    (c.corner_side.ensures ∙ c.line_of_edge-line.ensures w.first_corner
    ∙ (λ i. side_at (times_plane (e i) (edge_through u v (unit k))) w.first_corner)) c.in-Zero.is
    (c.corner_side-in-Zero.ensures ∙ c.line_of_edge-line.ensures w.second_corner
    ∙ (λ i. side_at (times_plane (e i) (edge_through u v (unit k))) w.second_corner)) c.in-Zero-corner_side.is
    (c.corner_side-in-Zero-corner_side.ensures ∙ c.line_of_edge-line.ensures w.third_corner
    ∙ (λ i. side_at (times_plane (e i) (edge_through u v (unit k))) w.third_corner))
