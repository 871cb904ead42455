use Rattle.std.proofs.Common.{ap, ◌∙◌, subst, arith, below_more}
use Rattle.std.proofs.lemmas.Grind.{common_steps}
use Rattle.std.proofs.lemmas.List.{get_or_read}
use Rattle.mesh_read.specs.Surface.Surfaces.{is_point_below}
use Rattle.mesh_place.specs.declared.surface.transformed.TransformedPoint.{TransformedPoint}
use Rattle.mesh_place.specs.Images.{transformed_point}
use Rattle.mesh_shapes.specs.Texts.{HasFewPlaces}
use Rattle.mesh_shapes.proofs.SurfaceTexts.{near_point}
use Rattle.mesh_shapes.proofs.texts.put_points.Goals as goal

pub put_point-requires : goal.put_point-requires
put_point-requires c =
    ap (λ (p : TransformedPoint). is_point_below (transformed_point p)) c.point-item.is
    ∙ near_point c.args.points.now c.loop-point.point-index c.point-item.result c.requires (omega arith)

pub loop-point-preserved : goal.loop-point-preserved
loop-point-preserved c = record {
  text = grind (arith, common_steps);
  places = below_more _ _ c.loop-point.invariant.places
      (λ d. subst HasFewPlaces (get_or_read c.args.points.now c.loop-point.point-index c.point-item.result (omega arith) c.point-item.is d) c.in_ok-put_point.ensures.places);
}
