use Rattle.std.proofs.Common.{sym, ◌∙◌}
use Rattle.ember_model.proofs.PlaneSizes.{tri_within}
use Rattle.ember_width.proofs.TakenPlanes.{edge_taken, edges_taken}
use Rattle.ember_trace.specs.Paths.{path_of}
use Rattle.ember_trace.proofs.ParallelTriangles.{parallel_last}
use Rattle.ember_trace.proofs.segments.last_is_behind.Goals as goal

pub returns-then-is_parallel : goal.returns-then-is_parallel
returns-then-is_parallel g c = sym (parallel_last (path_of c.args.way.now) c.args.triangle.now (sym c.is_parallel.ensures ∙ c.if-is_parallel.true))

pub edge_plane-requires-clause-tri : goal.edge_plane-requires-clause-tri
edge_plane-requires-clause-tri g c = tri_within g.met.W.Width.at_most_broad c.args.triangle.now.valid

pub edge_plane-requires-then-is_behind_at_end-clause-tri : goal.edge_plane-requires-then-is_behind_at_end-clause-tri
edge_plane-requires-then-is_behind_at_end-clause-tri g c = tri_within g.met.W.Width.at_most_broad c.args.triangle.now.valid

pub edge_plane-requires-then-is_behind_at_end-2-clause-tri : goal.edge_plane-requires-then-is_behind_at_end-2-clause-tri
edge_plane-requires-then-is_behind_at_end-2-clause-tri g c = tri_within g.met.W.Width.at_most_broad c.args.triangle.now.valid

pub is_behind_at_end-requires : goal.is_behind_at_end-requires
is_behind_at_end-requires g c = edge_taken g.met.W.Width.takes (c.edge_plane.ensures.within g.W.Width.corner c.args.triangle.now.valid)

pub is_behind_at_end-requires-then-is_behind_at_end : goal.is_behind_at_end-requires-then-is_behind_at_end
is_behind_at_end-requires-then-is_behind_at_end g c = edge_taken g.met.W.Width.takes (c.edge_plane-then-is_behind_at_end.ensures.within g.W.Width.corner c.args.triangle.now.valid)

pub is_behind_at_end-requires-then-is_behind_at_end-2 : goal.is_behind_at_end-requires-then-is_behind_at_end-2
is_behind_at_end-requires-then-is_behind_at_end-2 g c = edge_taken g.met.W.Width.takes (c.edge_plane-then-is_behind_at_end-2.ensures.within g.W.Width.corner c.args.triangle.now.valid)

pub are_behind_at_end-requires : goal.are_behind_at_end-requires
are_behind_at_end-requires g c = edges_taken g.met.W.Width.takes _ c.args.triangle.now.edges_sized
