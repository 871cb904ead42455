-- Floors of points' coordinates, and numbers moved into the root
use Rattle.std.specs.Prelude.{ℤ, neg_ℤ, int_lt, if◌then◌else◌}
use Rattle.std.specs.Int.{int_div_euclid}
use Rattle.ember_model.specs.declared.point.Axis.{Axis}
use Rattle.ember_model.specs.declared.point.Axis.TheVariants.{X, Y, Z}
use Rattle.ember_model.specs.declared.point.Spot.{Spot}

-- the floor of a point's coordinate along an axis
abbrev pub floor_along : Axis → Spot → ℤ
floor_along X s = int_div_euclid s.x s.w
floor_along Y s = int_div_euclid s.y s.w
floor_along Z s = int_div_euclid s.z s.w

-- the number from -h to h that is nearest to z
abbrev pub moved_within : ℤ → ℤ → ℤ
moved_within h z = if int_lt z (neg_ℤ h) then neg_ℤ h else if int_lt h z then h else z
