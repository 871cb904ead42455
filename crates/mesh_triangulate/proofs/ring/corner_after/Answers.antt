use Rattle.mesh_triangulate.proofs.Corners.{read_is_contained, end_is_corner}
use Rattle.mesh_triangulate.proofs.ring.corner_after.Goals as goal

pub returns-then-s-corner : goal.returns-then-s-corner
returns-then-s-corner c =
    end_is_corner c.args.boundary.now c.s-item.result (read_is_contained c.args.boundary.now c.loop-s.s-index c.s-item.result c.loop-s-test.true c.s-item.is)
