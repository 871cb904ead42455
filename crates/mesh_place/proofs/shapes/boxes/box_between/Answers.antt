use Rattle.std.proofs.Common.{subst}
use Rattle.mesh_read.specs.Surface.Surfaces.{Content}
use Rattle.mesh_place.specs.AffineMaps.{affine_of}
use Rattle.mesh_place.specs.Images.{IsImageOf, transformed_content}
use Rattle.mesh_place.proofs.shapes.boxes.box_between.Goals as goal

pub returns-in-Ok-clause-ok : goal.returns-in-Ok-clause-ok
returns-in-Ok-clause-ok c = record {
  map = affine_of c.in_ok-map.map;
  right = c.in_ok-map.ensures;
  image = subst (λ (unit : Content). IsImageOf (affine_of c.in_ok-map.map) unit (transformed_content c.in-Ok.placed))
      c.in_ok-unit.ensures.content c.in-Ok.ensures.image;
}
