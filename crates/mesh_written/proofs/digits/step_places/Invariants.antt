use Rattle.std.proofs.Common.{◌≡◌, ◌+◌, ◌-◌, ◌<◌}
use Rattle.mesh_written.specs.Digits.{places_of_rest, step_places}
use Rattle.mesh_written.proofs.digits.step_places.Given as goal

abbrev pub invariant-loop-places : goal.invariant-loop-places
invariant-loop-places l = record {
  value : l.places + places_of_rest l.step.denominator (11 - l.places) l.rest ≡ step_places l.step;
  rest : l.rest < l.step.denominator;
}
