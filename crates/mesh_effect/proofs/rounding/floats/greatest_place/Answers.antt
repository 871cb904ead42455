use Rattle.std.proofs.Common.{◌≡◌, max, get_or, refl, ap, ◌∙◌, arith}
use Rattle.mesh_write.specs.declared.stl.triangle.FloatPoint.{FloatPoint}
use Rattle.mesh_effect.specs.Rounding.Floats.{point_place}
use Rattle.mesh_effect.proofs.Maxima.{greatest_none, greatest_more, greatest_all}
use Rattle.mesh_effect.proofs.rounding.floats.greatest_place.Goals as goal

pub loop-point-init : goal.loop-point-init
loop-point-init c = record { value = greatest_none point_place c.args.points.now; few = omega arith }

pub loop-point-preserved : goal.loop-point-preserved
loop-point-preserved c =
    let none : FloatPoint = record { x = 0; y = 0; z = 0 } in
    let point : FloatPoint = get_or c.args.points.now c.loop-point.point-index none in
    let grown : c.max-greatest.result ≡ max c.loop-point.greatest c.point_place.result = c.max-greatest.ensures in
    record {
      value = greatest_more point_place c.args.points.now c.loop-point.point-index c.loop-point.greatest
          c.max-greatest.result point none c.loop-point.invariant.value
          (grown ∙ ap (max c.loop-point.greatest) c.point_place.ensures.value) c.loop-point-test.true refl;
      few = omega (arith, grown, c.point_place.ensures.few, c.loop-point.invariant.few);
    }

pub returns-clause-value : goal.returns-clause-value
returns-clause-value c = greatest_all point_place c.args.points.now c.loop-point.point-index c.loop-point.greatest
    c.loop-point.invariant.value c.loop-point-test.false
