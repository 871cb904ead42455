-- Vectors of three integers, and tuples of four: a point x/w, y/w, z/w, or a plane
use Rattle.std.specs.Prelude.{ℤ, pos, ◌+ℤ◌, ◌-ℤ◌, ◌*ℤ◌}

pub record Vector : Type 0 where
  pub x : ℤ
  pub y : ℤ
  pub z : ℤ

pub record Tuple : Type 0 where
  pub x : ℤ
  pub y : ℤ
  pub z : ℤ
  pub w : ℤ

abbrev pub zero_v : Vector
zero_v = record { x = pos 0; y = pos 0; z = pos 0 }

abbrev pub minus_v : Vector → Vector → Vector
minus_v u v = record { x = u.x -ℤ v.x; y = u.y -ℤ v.y; z = u.z -ℤ v.z }

abbrev pub plus_v : Vector → Vector → Vector
plus_v u v = record { x = u.x +ℤ v.x; y = u.y +ℤ v.y; z = u.z +ℤ v.z }

abbrev pub scale_v : ℤ → Vector → Vector
scale_v k v = record { x = k *ℤ v.x; y = k *ℤ v.y; z = k *ℤ v.z }

abbrev pub dot : Vector → Vector → ℤ
dot u v = u.x *ℤ v.x +ℤ u.y *ℤ v.y +ℤ u.z *ℤ v.z

abbrev pub cross : Vector → Vector → Vector
cross u v =
    record { x = u.y *ℤ v.z -ℤ u.z *ℤ v.y; y = u.z *ℤ v.x -ℤ u.x *ℤ v.z; z = u.x *ℤ v.y -ℤ u.y *ℤ v.x }

abbrev pub det : Vector → Vector → Vector → ℤ
det u v w = dot u (cross v w)

-- the normal of the triangle with these corners: their cross products in turn
abbrev pub normal : Vector → Vector → Vector → Vector
normal u v w = plus_v (plus_v (cross u v) (cross v w)) (cross w u)
