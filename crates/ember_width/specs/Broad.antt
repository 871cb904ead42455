-- The broad grid: how large the numbers of planes and points are
use Rattle.std.specs.Prelude.{◌≡◌, ℕ, ◌+◌, ◌*◌, ◌<◌, ◌≤◌, ℤ, pos, ◌+ℤ◌, ◌*ℤ◌, ◌<ℤ◌, ◌≤ℤ◌}
use Rattle.ember_algebra.specs.Size.{Small}
use Rattle.ember_algebra.specs.Vector.{Vector}
use Rattle.ember_model.specs.declared.point.Corner.{Corner}
use Rattle.ember_model.specs.declared.plane.Plane.{Plane}
use Rattle.ember_model.specs.declared.point.Spot.{Spot}
use Rattle.ember_model.specs.Within.{IsCornerWithin}

-- ---- the greatest sizes
-- of an entry of a normal, 2^40 - 1, and of a constant, 2^62 - 1
abbrev pub most_normal : ℕ
most_normal = 1099511627775

abbrev pub most_constant : ℕ
most_constant = 4611686018427387903

-- of an entry of a cross product of two normals
abbrev pub most_cross : ℕ
most_cross = 2 * (most_normal * most_normal)

-- of the weight of a meet: a normal times a cross product
abbrev pub most_weight : ℕ
most_weight = 3 * (most_normal * most_cross)

-- of the numerator of a coordinate: three constants times entries of cross products
abbrev pub most_numerator : ℕ
most_numerator = 3 * (most_constant * most_cross)

-- of a number of a short point, 2^62 - 1
abbrev pub most_short : ℕ
most_short = 4611686018427387903

-- of the floor of a coordinate in the root, 2^19
abbrev pub most_floor : ℕ
most_floor = 524288

-- of the value of a plane at a corner of a unit cube in the root
abbrev pub most_value : ℕ
most_value = 3 * (most_normal * most_floor) + most_constant

-- of the constant of a plane's line in a wall
abbrev pub most_line : ℕ
most_line = most_constant + most_normal * most_floor

-- of a numerator of a point on a wall: two constants of lines times entries
abbrev pub most_minor : ℕ
most_minor = 2 * (most_line * most_normal)

-- ---- planes
-- each entry of the normal is below 2^40 in size, the constant below 2^62
pub record IsBroadPlane (p : Plane) : Type 0 where
  pub a : Small most_normal p.a
  pub b : Small most_normal p.b
  pub c : Small most_normal p.c
  pub d : Small most_constant p.d

-- a cross product of two normals
pub record IsCross (v : Vector) : Type 0 where
  pub x : Small most_cross v.x
  pub y : Small most_cross v.y
  pub z : Small most_cross v.z

-- ---- points
-- all four numbers are short
pub record IsShort (s : Spot) : Type 0 where
  pub x : Small most_short s.x
  pub y : Small most_short s.y
  pub z : Small most_short s.z
  pub w : Small most_short s.w
  pub weight : pos 0 <ℤ s.w

-- r is a remainder of a division by w
pub record IsRemainder (r w : ℤ) : Type 0 where
  pub at_least : pos 0 ≤ℤ r
  pub below : r <ℤ w

-- a point in the root by the floors of its coordinates and their remainders
pub record IsFloored (least : Corner) (rest : Spot) : Type 0 where
  pub floors : IsCornerWithin most_floor least
  pub x : IsRemainder rest.x rest.w
  pub y : IsRemainder rest.y rest.w
  pub z : IsRemainder rest.z rest.w
  pub w : Small most_weight rest.w
  pub weight : pos 0 <ℤ rest.w

-- any meet of three planes
pub record IsFar (s : Spot) : Type 0 where
  pub x : Small most_numerator s.x
  pub y : Small most_numerator s.y
  pub z : Small most_numerator s.z
  pub w : Small most_weight s.w
  pub weight : pos 0 <ℤ s.w

-- ---- coordinates
-- q is the quotient of n by w, rounded down
pub record IsQuotient (q n w : ℕ) : Type 0 where
  pub at_least : q * w ≤ n
  pub below : n < (q + 1) * w

-- q is the floor of x / w, which lies in the root, and r is the remainder
pub record IsPlace (q r x w : ℤ) : Type 0 where
  pub value : x ≡ q *ℤ w +ℤ r
  pub rest : IsRemainder r w
  pub small : Small most_floor q

-- x / w lies in the root: from -2^19 to below 2^19
pub record IsInRoot (x w : ℤ) : Type 0 where
  pub at_least : pos 0 ≤ℤ (x +ℤ pos most_floor *ℤ w)
  pub below : x <ℤ (pos most_floor *ℤ w)
