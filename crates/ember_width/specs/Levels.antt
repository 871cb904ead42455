-- Levels: planes across an axis; where two other planes meet one
use Rattle.std.specs.Prelude.{◌≡◌, ℤ, pos, ◌-ℤ◌, ◌*ℤ◌}
use Rattle.ember_model.specs.declared.point.Axis.{Axis}
use Rattle.ember_model.specs.declared.point.Axis.TheVariants.{X, Y, Z}
use Rattle.ember_model.specs.declared.point.Spot.{Spot}
use Rattle.ember_model.specs.declared.plane.Plane.{Plane}
use Rattle.ember_model.specs.Planes.{along}

-- the plane's normal lies along the axis, so the plane lies across it
abbrev pub IsAlong : Axis → Plane → Type 0
IsAlong X p = (p.b ≡ pos 0) × (p.c ≡ pos 0)
IsAlong Y p = (p.a ≡ pos 0) × (p.c ≡ pos 0)
IsAlong Z p = (p.a ≡ pos 0) × (p.b ≡ pos 0)

-- ---- the line a u + b v = d w of a plane in the level, where u and v are the coordinates along the next two axes
abbrev pub line_a : Axis → Plane → ℤ
line_a X p = p.b
line_a Y p = p.c
line_a Z p = p.a

abbrev pub line_b : Axis → Plane → ℤ
line_b X p = p.c
line_b Y p = p.a
line_b Z p = p.b

abbrev pub line_d : Axis → ℤ → Plane → ℤ
line_d k at p = p.d -ℤ along p k *ℤ at

-- greater than 0 if the line of p turns to that of q counter-clockwise, seen from above
abbrev pub turn_at : Axis → Plane → Plane → ℤ
turn_at k p q = line_a k p *ℤ line_b k q -ℤ line_b k p *ℤ line_a k q

-- the point with this coordinate along the axis and these along the next two
abbrev pub point_at : Axis → ℤ → ℤ → ℤ → ℤ → Spot
point_at X t u v w = record { x = t; y = u; z = v; w = w }
point_at Y t u v w = record { x = v; y = t; z = u; w = w }
point_at Z t u v w = record { x = u; y = v; z = t; w = w }

-- the meet of the two lines
abbrev pub level_meet : Axis → ℤ → Plane → Plane → Spot
level_meet k at p q =
    point_at k (at *ℤ turn_at k p q) (line_d k at p *ℤ line_b k q -ℤ line_b k p *ℤ line_d k at q)
    (line_d k at q *ℤ line_a k p -ℤ line_a k q *ℤ line_d k at p) (turn_at k p q)
