-- Meets of three planes, and planes with a coordinate fixed
use Rattle.std.specs.Prelude.{ℕ, ◌+◌, ◌^◌, Bool, ltb, ℤ, pos, ◌<ℤ◌, unsigned_abs, ◌-ℤ◌, ◌*ℤ◌}
use Rattle.std.specs.Int.{◌∣◌}
use Rattle.ember_algebra.specs.Size.{Small}
use Rattle.ember_algebra.specs.Sign.{sign}
use Rattle.ember_algebra.specs.Vector.{Vector}
use Rattle.ember_algebra.specs.Vector.{det}
use Rattle.ember_model.specs.declared.plane.Plane.{Plane}
use Rattle.ember_model.specs.declared.point.Spot.{Spot}
use Rattle.ember_model.specs.declared.point.Axis.{Axis}
use Rattle.ember_model.specs.declared.point.Axis.TheVariants.{X, Y, Z}
use Rattle.ember_model.specs.Points.{scaled}
use Rattle.ember_model.specs.Edges.{normal}
use Rattle.ember_point.specs.declared.meet_point.Meet.{Meet}
use Rattle.ember_point.specs.declared.cross.Cross.{Cross}

-- a meet as a point
abbrev pub spot_of : Meet → Spot
spot_of m = record { x = m.x; y = m.y; z = m.z; w = m.w }

-- ---- the meet of three planes
-- the determinant of the normals
abbrev pub weight : Plane → Plane → Plane → ℤ
weight p q r = det (normal p) (normal q) (normal r)

-- the normal with the constant in the place of one entry
abbrev pub for_x : Plane → Vector
for_x p = record { x = p.d; y = p.b; z = p.c }

abbrev pub for_y : Plane → Vector
for_y p = record { x = p.a; y = p.d; z = p.c }

abbrev pub for_z : Plane → Vector
for_z p = record { x = p.a; y = p.b; z = p.d }

-- the four determinants
abbrev pub determinants : Plane → Plane → Plane → Spot
determinants p q r =
    record {
      x = det (for_x p) (for_x q) (for_x r);
      y = det (for_y p) (for_y q) (for_y r);
      z = det (for_z p)
          (for_z q) (for_z r);
      w = weight p q r;
    }

-- with the sign turned if the weight is negative
abbrev pub meet_of : Plane → Plane → Plane → Spot
meet_of p q r = scaled (sign (weight p q r)) (determinants p q r)

-- ---- cross products
abbrev pub cross_of : Cross → Vector
cross_of u = record { x = u.x; y = u.y; z = u.z }

-- ---- a plane with one coordinate fixed
-- the plane with a coordinate fixed
abbrev pub slid : Plane → Axis → ℤ → Plane
slid p X at = record { a = pos 0; b = p.b; c = p.c; d = p.d -ℤ p.a *ℤ at }
slid p Y at = record { a = p.a; b = pos 0; c = p.c; d = p.d -ℤ p.b *ℤ at }
slid p Z at = record { a = p.a; b = p.b; c = pos 0; d = p.d -ℤ p.c *ℤ at }

-- ---- points in 64 bits
-- the sizes of the four numbers add up to less than 2^62
abbrev pub has_short_numbers : Spot → Bool
has_short_numbers s = ltb (unsigned_abs s.x + unsigned_abs s.y + unsigned_abs s.z + unsigned_abs s.w) (2 ^ 62)

-- ---- lowest terms
-- d divides the four numbers, and each number that does divides d
pub record IsGreatestDivisor (v : Spot) (d : ℤ) : Type 0 where
  pub positive : pos 0 <ℤ d
  pub small : Small 302231454903657293676543 d
  pub x : unsigned_abs d ∣ unsigned_abs v.x
  pub y : unsigned_abs d ∣ unsigned_abs v.y
  pub z : unsigned_abs d ∣ unsigned_abs v.z
  pub w : unsigned_abs d ∣ unsigned_abs v.w
  pub greatest : (k : ℕ) → k ∣ unsigned_abs v.x → k ∣ unsigned_abs v.y → k ∣ unsigned_abs v.z →
      k ∣ unsigned_abs v.w → k ∣ unsigned_abs d
