-- The value of a plane at a point, by that at the least corner of the point's unit cube
use Rattle.std.specs.Prelude.{ℕ, ◌+◌, ◌*◌, ℤ, ◌+ℤ◌, ◌-ℤ◌, ◌*ℤ◌}
use Rattle.ember_model.specs.declared.plane.Plane.{Plane}
use Rattle.ember_width.specs.Broad.{most_normal, most_constant}
use Rattle.mesh_point.specs.FloorTurns.{most_floor}
use Rattle.mesh_point.specs.declared.space_point.SpacePoint.{SpacePoint}

-- the value at that corner
abbrev pub floor_value : Plane → SpacePoint → ℤ
floor_value h p = h.a *ℤ p.floor_x +ℤ h.b *ℤ p.floor_y +ℤ h.c *ℤ p.floor_z -ℤ h.d

-- what the remainders add to it, times the weight
abbrev pub rest_value : Plane → SpacePoint → ℤ
rest_value h p = h.a *ℤ p.x +ℤ h.b *ℤ p.y +ℤ h.c *ℤ p.z

-- ---- the greatest sizes
abbrev pub most_floor_value : ℕ
most_floor_value = 3 * (most_normal * most_floor) + most_constant

-- of what the remainders add
abbrev pub most_change : ℕ
most_change = 3 * most_normal

-- of a weight with which all numbers on the way to a side fit into 128 bits: 2^84 - 1
abbrev pub most_long : ℕ
most_long = 19342813113834066795298815
