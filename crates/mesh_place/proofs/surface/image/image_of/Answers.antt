use Rattle.mesh_read.specs.Surface.Surfaces.{point_of}
use Rattle.mesh_place.proofs.surface.image.image_of.Goals as goal

pub returns : goal.returns
returns c = c.in_ok-image.ensures (point_of c.args.vertex.now) c.in_ok-places.ensures.point
