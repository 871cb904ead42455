use Rattle.std.proofs.Common.{◌≡◌, ◌≤◌, max, drop}
use Rattle.mesh_effect.specs.Rounding.Maximum.{greatest_of}
use Rattle.mesh_effect.specs.Rounding.Floats.{point_place}
use Rattle.mesh_effect.proofs.rounding.floats.greatest_place.Given as goal

abbrev pub invariant-loop-point : goal.invariant-loop-point
invariant-loop-point l = record {
  value : max l.greatest (greatest_of point_place (drop l.point-index l.points)) ≡ greatest_of point_place l.points;
  few : l.greatest ≤ 254;
}
