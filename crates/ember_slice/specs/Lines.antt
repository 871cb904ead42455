-- The line in which a plane meets a level plane, and the order along it
use Rattle.std.specs.Prelude.{◌≡◌, ℤ, pos, ◌+ℤ◌, ◌-ℤ◌, ◌*ℤ◌, Bool, ◌&&◌}
use Rattle.ember_algebra.specs.Sign.{is_negative, is_zero, is_positive}
use Rattle.ember_model.specs.declared.plane.Plane.{Plane}
use Rattle.ember_model.specs.declared.point.Spot.{Spot}
use Rattle.ember_model.specs.Planes.{value_at}

-- the plane z = at + 1/2
abbrev pub level : ℤ → Plane
level at = record { a = pos 0; b = pos 0; c = pos 2; d = pos 2 *ℤ at +ℤ pos 1 }

-- a plane that doesn't cross the level planes
abbrev pub IsFlat : Plane → Type 0
IsFlat n = (n.a ≡ pos 0) × (n.b ≡ pos 0)

-- the points of n at the level
abbrev pub is_on_line : Plane → ℤ → Spot → Bool
is_on_line n at v = is_positive v.w && (is_zero (value_at n v) && is_zero (value_at (level at) v))

-- how far v lies along (-b, a, 0), times its weight, if n has the normal (a, b, c)
abbrev pub along_line : Plane → Spot → ℤ
along_line n v = n.a *ℤ v.y -ℤ n.b *ℤ v.x

-- how far u lies ahead of v in that direction, times the weights
abbrev pub ahead : Plane → Spot → Spot → ℤ
ahead n u v = v.w *ℤ along_line n u -ℤ u.w *ℤ along_line n v

-- whether u is before v along the line
abbrev pub is_before : Plane → Spot → Spot → Bool
is_before n u v = is_negative (ahead n u v)
