use Rattle.std.proofs.Common.{List, ap, subst, ◌∙◌}
use Rattle.mesh_place.specs.AffineMaps.{affine_of}
use Rattle.mesh_place.specs.declared.maps.steps.Step.{Step}
use Rattle.mesh_place.specs.Images.{facets_under}
use Rattle.mesh_place.specs.Steps.{IsMapOfSteps}
use Rattle.mesh_placing.proofs.image.image_by.Goals as goal

pub returns-clause-image : goal.returns-clause-image
returns-clause-image c = record {
  map = affine_of c.in_ok-map.map;
  right = subst (λ (steps : List Step). IsMapOfSteps steps (affine_of c.in_ok-map.map)) c.deref.ensures.value c.in_ok-map.ensures.map;
  points = c.in_ok-image.ensures.image.points;
  facets = c.in_ok-facets.ensures
      ∙ ap (facets_under c.args.placing.now.is_turned) (c.deref-2.ensures.value ∙ c.in_ok-image.ensures.image.facets);
}
