use Rattle.std.proofs.Common.{◌≡◌, ◌*◌, ◌%◌}
use Rattle.mesh_place.specs.Directions.{IsSteepOrFlat, quarters_further, direction_of, Direction}
use Rattle.mesh_place.proofs.maps.directions.direction_at.Given as goal

abbrev pub invariant-loop-quarter : goal.invariant-loop-quarter
invariant-loop-quarter l = record {
  within : Direction;
  first : IsSteepOrFlat (4 * l.part % l.whole) l.whole within;
  further : direction_of l.direction ≡ quarters_further l._quarter within;
}
