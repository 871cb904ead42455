use Rattle.std.proofs.Common.{sym, ◌∙◌}
use mir.Syntax.{w32}
use Rattle.ember_algebra.specs.Sign.{sgn}
use Rattle.ember_algebra.proofs.Exact.{input, stored, narrow, ◌&◌, done, exact}
use Rattle.ember_model.specs.Planes.{value_at, times_plane, edge_through, unit}
use Rattle.ember_model.proofs.PlaneSizes.{corner_within}
use Rattle.ember_point.specs.Points.{slid}
use Rattle.ember_trace.specs.Paths.{path_of, coordinate}
use Rattle.ember_trace.proofs.edges.corner_side_after_first.Goals as goal

pub moved_edge_side-requires-clause-from : goal.moved_edge_side-requires-clause-from
moved_edge_side-requires-clause-from g c = corner_within g.met.W.Width.at_most_broad c.requires.from

pub moved_edge_side-requires-clause-to : goal.moved_edge_side-requires-clause-to
moved_edge_side-requires-clause-to g c = corner_within g.met.W.Width.at_most_broad c.requires.to

pub returns : goal.returns
returns g c =
    let w = path_of c.args.way.now in let u = c.args.u.now in let v = c.args.v.now in let r = c.requires in let k = sym r.axes.second in
    let s = exact (r.s & done) (narrow 0) tt in
    let at = exact (c.coordinate-at.ensures.small & done) (stored w32 (input 0)) tt ∙ c.coordinate-at.ensures.value in
    c.moved_edge_side.ensures (coordinate w.lo w.second_axis)
    ∙ (λ i. sgn (value_at (slid (slid (times_plane (s i) (edge_through u v (unit (k i)))) (k i)
    (coordinate w.lo w.second_axis)) w.main (at i)) (c.numbers.ensures i)))
