use Rattle.mesh_triangulate.proofs.Corners.{found_is_contained, start_is_corner}
use Rattle.mesh_triangulate.proofs.cut.start_of.Goals as goal

pub returns : goal.returns
returns c =
    start_is_corner c.args.boundary.now c.in-Some.s (found_is_contained c.args.boundary.now c.args.segment c.in-Some.s c.in-Some.ensures)
