use Rattle.std.proofs.Common.{arith}
use Rattle.mesh_place.proofs.Images.{vertices_more}
use Rattle.mesh_place.proofs.surface.transformed.vertices_of.Goals as goal

pub loop-point-preserved : goal.loop-point-preserved
loop-point-preserved c =
    vertices_more c.args.points.now c.loop-point.point-index c.point-item.result c.loop-point.vertices.items c.push.new.self.items
    c.vertex.result (omega arith) c.point-item.is c.vertex.ensures c.loop-point.invariant c.in_ok-push.ensures.items
