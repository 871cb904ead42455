use Rattle.std.proofs.Common.{◌≡◌, ℕ, ◌<◌, length, get_or}
use Rattle.mesh_write.specs.declared.stl.triangle.FloatPoint.{FloatPoint}
use Rattle.mesh_point.specs.declared.space_point.SpacePoint.{SpacePoint}
use Rattle.mesh_written.specs.Floats.{IsFloatPoint}
use Rattle.mesh_written.proofs.floats.float_points.Given as goal

abbrev pub invariant-loop-corner : goal.invariant-loop-corner
invariant-loop-corner l = record {
  count : length l.points.items ≡ l.corner-index;
  each : (k : ℕ) (c : SpacePoint) (p : FloatPoint) → k < l.corner-index → IsFloatPoint l.step l.offset (get_or l.corners k c) (get_or l.points.items k p);
}
