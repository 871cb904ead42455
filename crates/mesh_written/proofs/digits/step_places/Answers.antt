use Rattle.std.proofs.Common.{◌≡◌, arith}
use Rattle.mesh_written.specs.Digits.{step_places}
use Rattle.mesh_written.proofs.StepPlaces.{places_found, one_place_more, last_place}
use Rattle.mesh_written.proofs.digits.step_places.Goals as goal

pub returns-then-rest-eq0-clause-value : goal.returns-then-rest-eq0-clause-value
returns-then-rest-eq0-clause-value c =
    places_found c.args.step.now.denominator c.loop-places.places c.loop-places.rest (step_places c.args.step.now)
    c.if-rest-eq0.true c.loop-places.invariant.value

pub loop-places-preserved : goal.loop-places-preserved
loop-places-preserved c = record {
  value = one_place_more c.args.step.now.denominator c.loop-places.places c.loop-places.rest
      (step_places c.args.step.now) c.loop-places-test.true c.if-rest-eq0.false c.loop-places.invariant.value;
  rest = omega (arith, c.requires.denominator_positive);
}

pub returns-clause-value : goal.returns-clause-value
returns-clause-value c =
    let last : c.loop-places.places ≡ 11 = omega arith in
    last_place c.args.step.now.denominator c.loop-places.places c.loop-places.rest (step_places c.args.step.now) last c.loop-places.invariant.value
