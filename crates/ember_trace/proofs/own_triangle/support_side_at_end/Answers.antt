use Rattle.std.proofs.Common.{sym}
use Rattle.ember_width.proofs.Slides.{support_within_planes}
use Rattle.ember_width.proofs.TakenPlanes.{support_taken}
use Rattle.ember_trace.specs.Paths.{path_of}
use Rattle.ember_trace.proofs.OwnTriangles.{end_on_plane}
use Rattle.ember_trace.proofs.own_triangle.support_side_at_end.Goals as goal

pub side_at_end-requires : goal.side_at_end-requires
side_at_end-requires g c = support_taken g.met.W.Width.takes c.args.triangle.now.sized

pub returns-then-shares_plane : goal.returns-then-shares_plane
returns-then-shares_plane g c =
    let f = c.args.triangle.now in let w = c.args.way.now in let m = g.W.Width.corner in
    sym (end_on_plane m (path_of w) w.region.now w.region_corners f.support (support_within_planes m f.support f.sized) (c.shares_plane.ensures c.if-shares_plane.true))
