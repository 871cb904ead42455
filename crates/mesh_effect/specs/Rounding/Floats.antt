-- Written floats
use Rattle.std.specs.Prelude.{ℕ, ◌+◌, ◌-◌, ◌/◌, ◌%◌, ◌^◌, max, Bool, ◌==◌, if◌then◌else◌, pos, Option, Some, None, List}
use Rattle.mesh_number.specs.Number.Fractions.{Fraction, whole_number}
use Rattle.mesh_number.specs.Number.Floats.{binary32_value}
use Rattle.mesh_write.specs.declared.stl.triangle.FloatPoint.{FloatPoint}
use Rattle.mesh_effect.specs.Rounding.Maximum.{greatest_of}

-- the value of the binary32 with these bits; 0 for what is no number, which isn't written
abbrev pub value_or_zero : Option Fraction → Fraction
value_or_zero None = whole_number (pos 0)
value_or_zero (Some v) = v

abbrev pub float_number : ℕ → Fraction
float_number bits = value_or_zero (binary32_value bits)

-- ---- parts of the bits of a number
abbrev pub is_below_zero : ℕ → Bool
is_below_zero bits = bits / 2 ^ 31 == 1

abbrev pub significand_of : ℕ → ℕ
significand_of bits = if bits / 2 ^ 23 % 256 == 0 then bits % 2 ^ 23 else 2 ^ 23 + bits % 2 ^ 23

-- the place of the significand's last bit: 0 stands for 2^-149, and each further one for twice as much
abbrev pub last_place : ℕ → ℕ
last_place bits = bits / 2 ^ 23 % 256 - 1

-- ---- points
-- the greatest place of a coordinate of the point
abbrev pub point_place : FloatPoint → ℕ
point_place p = max (last_place p.x) (max (last_place p.y) (last_place p.z))

-- and of all points, but at least 85
abbrev pub top_place : List FloatPoint → ℕ
top_place ps = max 85 (greatest_of point_place ps)
