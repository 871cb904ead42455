-- The order of coordinates
use Rattle.std.specs.Prelude.{ℤ, ◌+ℤ◌, ◌*ℤ◌}
use Rattle.std.specs.declared.cmp.Ordering.{Ordering}
use Rattle.std.specs.Ordering.{int_cmp}
use Rattle.mesh_point.specs.declared.coordinate.Coordinate.{Coordinate}

-- the coordinate times its weight
abbrev pub numerator : Coordinate → ℤ
numerator c = c.floor *ℤ c.weight +ℤ c.rest

-- the order of the numbers numerator c / c.weight and numerator d / d.weight
abbrev pub coordinate_order : Coordinate → Coordinate → Ordering
coordinate_order c d = int_cmp (numerator c *ℤ d.weight) (numerator d *ℤ c.weight)
