-- The middles of edges
use Rattle.std.specs.Prelude.{ℕ, ◌+◌, ◌/◌, ◌%◌, ◌==◌, ℤ, pos, neg_ℤ, ◌+ℤ◌, int_lt, unsigned_abs, Bool}
use Rattle.std.specs.Prelude.{true, false, ◌&&◌, if◌then◌else◌}
use Rattle.std.specs.Int.{saturate_signed, w128}
use Rattle.mesh_write.specs.declared.vertices.point.DecimalPoint.{DecimalPoint}

-- the whole number nearest to half of a size; of two, the even one
abbrev pub half : ℕ → ℕ
half size = if size % 2 == 1 && size / 2 % 2 == 1 then size / 2 + 1 else size / 2

abbrev pub signed : Bool → ℕ → ℤ
signed false size = pos size
signed true size = neg_ℤ (pos size)

abbrev pub halved : ℤ → ℤ
halved sum = signed (int_lt sum (pos 0)) (half (unsigned_abs sum))

-- between two numbers. A sum that needs more than 128 bits counts as the nearest number that doesn't
abbrev pub between : ℤ → ℤ → ℤ
between a b = halved (saturate_signed w128 (a +ℤ b))

abbrev pub middle : DecimalPoint → DecimalPoint → DecimalPoint
middle u v = record { x = between u.x v.x; y = between u.y v.y; z = between u.z v.z }
