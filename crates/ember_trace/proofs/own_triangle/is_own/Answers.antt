use Rattle.std.proofs.Common.{sym, ◌∙◌}
use Rattle.ember_trace.specs.Paths.{path_of}
use Rattle.ember_trace.proofs.OwnTriangles.{own_behind}
use Rattle.ember_trace.proofs.own_triangle.is_own.Goals as goal

pub returns : goal.returns
returns g c =
    let w = c.args.way.now in
    λ t. own_behind g.W.Width.corner (path_of w) w.region.now w.region_corners c.args.triangle.now c.args.triangle.now.valid (c.shares_plane.ensures c.if-not-shares_plane.false)
    (sym c.is_parallel.ensures ∙ c.if-is_parallel.false) (c.lies_behind_edges.ensures t)
