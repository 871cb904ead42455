-- Corners as floats
use Rattle.std.specs.Prelude.{◌≡◌, ℕ, ◌-◌, ◌*◌, ◌^◌, ◌<◌, ◌≤◌, List, length, slice_index_or, unsigned_abs, ⊤}
use Rattle.std.specs.List.{Any}
use Rattle.ember_model.specs.declared.point.Axis.{Axis}
use Rattle.ember_model.specs.declared.point.Axis.TheVariants.{X, Y, Z}
use Rattle.mesh_number.specs.Number.Fractions.{Fraction}
use Rattle.mesh_number.specs.Float.Binary32.{IsNearestBinary32}
use Rattle.mesh_grid.specs.declared.snap.steps.GridStep.{GridStep}
use Rattle.mesh_grid.specs.declared.snap.offsets.Offset.{Offset}
use Rattle.mesh_write.specs.declared.stl.triangle.FloatPoint.{FloatPoint}
use Rattle.mesh_point.specs.declared.space_point.SpacePoint.{SpacePoint}
use Rattle.mesh_written.specs.declared.fault.PlaceFault.{PlaceFault}
use Rattle.mesh_written.specs.declared.fault.PlaceFault.TheVariants.{TooFar, OutOfMemory}
use Rattle.mesh_written.specs.Places.{place_of}

-- the bits are those of the binary32 nearest to the number
abbrev pub IsFloatOf : Fraction → ℕ → Type 0
IsFloatOf v bits = IsNearestBinary32 v.numerator v.denominator bits

-- the number rounds to infinity
abbrev pub IsInfinite : Fraction → Type 0
IsInfinite v = (2 ^ 128 - 2 ^ 103) * v.denominator ≤ unsigned_abs v.numerator

-- the corner in the user's unit, rounded along each axis
pub record IsFloatPoint (s : GridStep) (o : Offset) (c : SpacePoint) (p : FloatPoint) : Type 0 where
  pub x : IsFloatOf (place_of s o X c) p.x
  pub y : IsFloatOf (place_of s o Y c) p.y
  pub z : IsFloatOf (place_of s o Z c) p.z

-- along some axis the corner rounds to infinity
pub record IsTooFar (s : GridStep) (o : Offset) (c : SpacePoint) : Type 0 where
  pub axis : Axis
  pub infinite : IsInfinite (place_of s o axis c)

-- the points are the corners, rounded, in order
pub record AreFloatPoints (s : GridStep) (o : Offset) (cs : List SpacePoint) (ps : List FloatPoint) : Type 0 where
  pub count : length ps ≡ length cs
  pub each : (k : ℕ) (c : SpacePoint) (p : FloatPoint) → k < length cs →
      IsFloatPoint s o (slice_index_or cs k c) (slice_index_or ps k p)

abbrev pub IsFloatFault : GridStep → Offset → List SpacePoint → PlaceFault → Type 0
IsFloatFault s o cs TooFar = Any (IsTooFar s o) cs
IsFloatFault s o cs OutOfMemory = ⊤
