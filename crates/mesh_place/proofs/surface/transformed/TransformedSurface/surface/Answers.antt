use Rattle.std.proofs.Common.{◌∙◌, ap}
use Rattle.mesh_place.specs.Images.{transformed_points}
use Rattle.mesh_place.proofs.surface.transformed.TransformedSurface.surface.Goals as goal

pub returns : goal.returns
returns c = λ i. record {
  points = (c.in_ok-vertices.ensures ∙ ap transformed_points c.as_slice.ensures.value) i;
  facets = (c.in_ok-facets.ensures.items ∙ c.as_slice-2.ensures.value) i;
}
