use Rattle.std.proofs.Common.{get_or}
use Rattle.mesh_triangulate.proofs.NamedTriangles.{three_corners}
use Rattle.mesh_triangulate.proofs.WholeTriangles.{three_sides_are_whole}
use Rattle.mesh_triangulate.proofs.whole.whole_triangle.Goals as goal

pub returns : goal.returns
returns c =
    let cs = c.args.corners.now in let ab = c.segment in let bc = c.segment-2 in let ca = c.segment-3 in
    three_sides_are_whole c.args.boundary.now c.args.plane (get_or cs 0 0) (get_or cs 1 0) (get_or cs 2 0) c.in_ok-ab.ab
    c.in_ok-bc.bc c.in_ok-ca.ca (record { first = ab.result; second = bc.result; third = ca.result })
    (record { plane = ab.ensures.plane; line = ab.ensures.line; start = ab.ensures.start; end = ab.ensures.end })
    (record { plane = bc.ensures.plane; line = bc.ensures.line; start = bc.ensures.start; end = bc.ensures.end })
    (record { plane = ca.ensures.plane; line = ca.ensures.line; start = ca.ensures.start; end = ca.ensures.end }) cs
    (three_corners cs c.told-corners) c.in_ok-ab.ensures c.in_ok-bc.ensures c.in_ok-ca.ensures
