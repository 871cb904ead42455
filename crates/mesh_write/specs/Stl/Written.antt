-- The bytes of a binary STL
use Rattle.std.specs.Prelude.{ℕ, ◌/◌, ◌%◌, List, [], ◌∷◌, ◌++◌, length, codes, flat_map}
use Rattle.mesh_write.specs.declared.stl.triangle.FloatPoint.{FloatPoint}
use Rattle.mesh_write.specs.declared.stl.triangle.FloatTriangle.{FloatTriangle}

-- 80 bytes
unfoldable pub stl_header : List ℕ
stl_header = codes "ember-mesh: rounded from an exact result                                        "

-- the four bytes of a number below 2^32, the lowest first
unfoldable pub number_bytes : ℕ → List ℕ
number_bytes n = n % 256 ∷ n / 256 % 256 ∷ n / 65536 % 256 ∷ n / 16777216 ∷ []

unfoldable pub point_bytes : FloatPoint → List ℕ
point_bytes p = number_bytes p.x ++ (number_bytes p.y ++ number_bytes p.z)

-- the normal, the corners, and an attribute of 0
unfoldable pub triangle_bytes : FloatTriangle → List ℕ
triangle_bytes t =
    point_bytes t.normal ++ (point_bytes t.a ++ (point_bytes t.b ++ (point_bytes t.c ++ 0 ∷ 0 ∷ [])))

-- the header, the number of triangles, and 50 bytes for each
abbrev pub stl_bytes_of : List FloatTriangle → List ℕ
stl_bytes_of ts = stl_header ++ (number_bytes (length ts) ++ flat_map triangle_bytes ts)
