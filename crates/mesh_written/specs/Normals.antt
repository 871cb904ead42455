-- Normals of planes as floats
use Rattle.std.specs.Prelude.{ℕ, List, Option, Some, None, slice_get, to_bits}
use Rattle.std.specs.Float.{Float, binary32, binary64, sqrt, round_to_format}
use Rattle.std.specs.Float.Ieee.{add, mul, div, of_int}
use Rattle.ember_model.specs.declared.plane.Plane.{Plane}
use Rattle.mesh_write.specs.declared.stl.triangle.FloatPoint.{FloatPoint}

-- the quotient in binary64, rounded to binary32
abbrev pub quotient : Float → Float → ℕ
quotient number length = to_bits binary32 (round_to_format binary32 (div binary64 number length))

-- the square in binary64
abbrev pub square : Float → Float
square x = mul binary64 x x

abbrev pub length_of : Float → Float → Float → Float
length_of a b c = sqrt binary64 (add binary64 (add binary64 (square a) (square b)) (square c))

-- the normal over its length
unfoldable pub unit_normal : Plane → FloatPoint
unit_normal p =
    let a = of_int binary64 p.a in
    let b = of_int binary64 p.b in
    let c = of_int binary64 p.c in
    let length = length_of a b c in
    record { x = quotient a length; y = quotient b length; z = quotient c length }

abbrev pub normal_from : Option Plane → FloatPoint
normal_from None = record { x = 0; y = 0; z = 0 }
normal_from (Some p) = unit_normal p

-- the normal of the plane with this number; 0 if there is no such plane
abbrev pub normal_at : List Plane → ℕ → FloatPoint
normal_at planes number = normal_from (slice_get planes number)
