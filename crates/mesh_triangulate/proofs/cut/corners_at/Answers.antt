use Rattle.mesh_triangulate.proofs.Corners.{three_are_corners}
use Rattle.mesh_triangulate.proofs.cut.corners_at.Goals as goal

pub returns : goal.returns
returns c =
    three_are_corners c.args.boundary.now c.in_ok-a.a c.in_ok-b.b c.in_ok-c.c c.in_ok-a.ensures c.in_ok-b.ensures c.in_ok-c.ensures
