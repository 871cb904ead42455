-- Lines of points and of indices
use Rattle.std.specs.Prelude.{ℕ, ℤ, pos, int_lt, unsigned_abs, List, ◌++◌, codes, decimal}
use Rattle.mesh_number.specs.Round.Decimals.{decimal_text}
use Rattle.mesh_write.specs.declared.vertices.point.DecimalPoint.{DecimalPoint}
use Rattle.mesh_write.specs.declared.vertices.point.IndexedTriangle.{IndexedTriangle}

-- ---- points
-- so many units of the last of these places, as a decimal
abbrev pub coordinate_text : ℕ → ℤ → List ℕ
coordinate_text places units = decimal_text (int_lt units (pos 0)) (unsigned_abs units) places

-- after a space
abbrev pub spaced : ℕ → ℤ → List ℕ
spaced places units = codes " " ++ coordinate_text places units

-- the coordinates of a point
unfoldable pub point_line : ℕ → DecimalPoint → List ℕ
point_line places p = coordinate_text places p.x ++ (spaced places p.y ++ (spaced places p.z ++ codes "\n"))

-- ---- indices
-- after a space
abbrev pub index_text : ℕ → List ℕ
index_text n = codes " " ++ decimal n

unfoldable pub indices_line : ℕ → ℕ → ℕ → List ℕ
indices_line a b c = index_text a ++ (index_text b ++ (index_text c ++ codes "\n"))

-- the number of corners and their indices, counted from 0
unfoldable pub listed_face : IndexedTriangle → List ℕ
listed_face t = codes "3" ++ indices_line t.a t.b t.c
