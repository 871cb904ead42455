use Rattle.std.proofs.Common.{sym, ◌∙◌}
use Rattle.ember_model.proofs.PlaneSizes.{tri_within}
use Rattle.ember_trace.proofs.SegmentSigns.{edge_support}
use Rattle.ember_trace.proofs.ParallelTriangles.{parallel_second}
use Rattle.ember_trace.specs.Paths.{path_of, side_after_first}
use Rattle.ember_trace.proofs.ThreeEdges.{all_three, last_of_three}
use Rattle.ember_trace.proofs.segments.second_is_behind.Goals as goal

pub returns-then-is_behind_after_first-2 : goal.returns-then-is_behind_after_first-2
returns-then-is_behind_after_first-2 g c =
    let w = path_of c.args.way.now in
    last_of_three c.is_behind_after_first.result c.is_behind_after_first-then-is_behind_after_first.result
    c.is_behind_after_first-then-is_behind_after_first-2.result _ c.if-is_behind_after_first.true
    c.if-is_behind_after_first-2.true (all_three (λ p. side_after_first w p) c.args.triangle.now.tri w.second_axis _ _
    _ _ _ _ c.edge_plane.ensures.value c.edge_plane-then-is_behind_after_first.ensures.value
    c.edge_plane-then-is_behind_after_first-2.ensures.value c.is_behind_after_first.ensures
    c.is_behind_after_first-then-is_behind_after_first.ensures
    c.is_behind_after_first-then-is_behind_after_first-2.ensures)

pub returns-then-is_parallel : goal.returns-then-is_parallel
returns-then-is_parallel g c = sym (parallel_second (path_of c.args.way.now) c.args.triangle.now (sym c.is_parallel.ensures ∙ c.if-is_parallel.true))

pub edge_plane-requires-clause-tri : goal.edge_plane-requires-clause-tri
edge_plane-requires-clause-tri g c = tri_within g.met.W.Width.at_most_broad c.args.triangle.now.valid

pub edge_plane-requires-then-is_behind_after_first-clause-tri : goal.edge_plane-requires-then-is_behind_after_first-clause-tri
edge_plane-requires-then-is_behind_after_first-clause-tri g c = tri_within g.met.W.Width.at_most_broad c.args.triangle.now.valid

pub edge_plane-requires-then-is_behind_after_first-2-clause-tri : goal.edge_plane-requires-then-is_behind_after_first-2-clause-tri
edge_plane-requires-then-is_behind_after_first-2-clause-tri g c = tri_within g.met.W.Width.at_most_broad c.args.triangle.now.valid

pub is_behind_after_first-requires : goal.is_behind_after_first-requires
is_behind_after_first-requires g c = edge_support (c.edge_plane.ensures.within g.W.Width.corner c.args.triangle.now.valid)

pub is_behind_after_first-requires-then-is_behind_after_first : goal.is_behind_after_first-requires-then-is_behind_after_first
is_behind_after_first-requires-then-is_behind_after_first g c = edge_support (c.edge_plane-then-is_behind_after_first.ensures.within g.W.Width.corner c.args.triangle.now.valid)

pub is_behind_after_first-requires-then-is_behind_after_first-2 : goal.is_behind_after_first-requires-then-is_behind_after_first-2
is_behind_after_first-requires-then-is_behind_after_first-2 g c = edge_support (c.edge_plane-then-is_behind_after_first-2.ensures.within g.W.Width.corner c.args.triangle.now.valid)
