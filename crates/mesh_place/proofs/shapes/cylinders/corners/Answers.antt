use Rattle.mesh_place.specs.AffineMaps.{affine_of}
use Rattle.mesh_place.proofs.Cylinders.{corners_more}
use Rattle.mesh_place.proofs.shapes.cylinders.corners.Goals as goal

pub loop-index-preserved : goal.loop-index-preserved
loop-index-preserved c =
    corners_more (affine_of c.args.map.now) c.args.sides c.loop-index.index c.in_ok-corner.corner c.loop-index.points.items
    c.push.new.self.items c.in_ok-image_of_point.field-0 c.loop-index.invariant c.in_ok-corner.ensures c.in_ok-image_of_point.ensures
    c.in_ok-push.ensures.items
