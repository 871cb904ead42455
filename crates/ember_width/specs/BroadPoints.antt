-- Points of the broad grid as rational points
use Rattle.std.specs.Prelude.{Bool, true, false, ◌+ℤ◌, ◌*ℤ◌}
use Rattle.ember_algebra.specs.Vector.{Vector}
use Rattle.ember_model.specs.declared.point.Spot.{Spot}
use Rattle.ember_wide.specs.Whole.{value_of}
use Rattle.ember_width.specs.declared.short_point.ShortPoint.{ShortPoint}
use Rattle.ember_width.specs.declared.floor_point.FloorPoint.{FloorPoint}
use Rattle.ember_width.specs.declared.far_point.FarPoint.{FarPoint}
use Rattle.ember_width.specs.declared.broad_point.BroadPoint.{BroadPoint}
use Rattle.ember_width.specs.declared.broad_point.BroadPoint.TheVariants.{Short, Floored, Far}
use Rattle.ember_width.specs.declared.cross.Cross.{Cross}

abbrev pub short_spot : ShortPoint → Spot
short_spot m = record { x = m.x; y = m.y; z = m.z; w = m.w }

-- a coordinate is its floor and the remainder over the weight
abbrev pub floor_spot : FloorPoint → Spot
floor_spot m =
    record {
      x = m.floor.x *ℤ m.w +ℤ m.x;
      y = m.floor.y *ℤ m.w +ℤ m.y;
      z = m.floor.z *ℤ m.w +ℤ m.z;
      w = m.w;
    }

abbrev pub far_spot : FarPoint → Spot
far_spot m = record { x = value_of m.x; y = value_of m.y; z = value_of m.z; w = m.w }

-- the point
abbrev pub spot_of : BroadPoint → Spot
spot_of (Short m) = short_spot m
spot_of (Floored m) = floor_spot m
spot_of (Far m) = far_spot m

-- the point has short numbers
abbrev pub is_short : BroadPoint → Bool
is_short (Short m) = true
is_short (Floored m) = false
is_short (Far m) = false

-- the cross product
abbrev pub cross_of : Cross → Vector
cross_of u = record { x = u.x; y = u.y; z = u.z }
