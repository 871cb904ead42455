-- The texts of meshes: a header, a line for each vertex, and a line for each triangle
use Rattle.std.specs.Prelude.{ℕ, ◌+◌, List, ◌++◌, length, codes, decimal, flat_map}
use Rattle.mesh_write.specs.declared.vertices.point.DecimalPoint.{DecimalPoint}
use Rattle.mesh_write.specs.declared.vertices.point.IndexedTriangle.{IndexedTriangle}
use Rattle.mesh_write.specs.declared.text.format.TextFormat.{TextFormat}
use Rattle.mesh_write.specs.declared.text.format.TextFormat.TheVariants.{Obj, Ply, Off}
use Rattle.mesh_write.specs.Text.Lines.{point_line, indices_line, listed_face}

-- ---- OBJ
abbrev pub obj_header : List ℕ
obj_header = codes "# ember-mesh: rounded from an exact result\n"

unfoldable pub obj_vertex : ℕ → DecimalPoint → List ℕ
obj_vertex places p = codes "v " ++ point_line places p

-- vertices are counted from 1
unfoldable pub obj_face : IndexedTriangle → List ℕ
obj_face t = codes "f" ++ indices_line (t.a + 1) (t.b + 1) (t.c + 1)

-- the lines behind the comment
abbrev pub obj_lines : ℕ → List DecimalPoint → List IndexedTriangle → List ℕ
obj_lines places ps ts = flat_map (obj_vertex places) ps ++ flat_map obj_face ts

abbrev pub obj_text : ℕ → List DecimalPoint → List IndexedTriangle → List ℕ
obj_text places ps ts = obj_header ++ obj_lines places ps ts

-- ---- PLY
unfoldable pub ply_header : ℕ → ℕ → List ℕ
ply_header vertices faces =
    codes "ply\nformat ascii 1.0\ncomment ember-mesh: rounded from an exact result\nelement vertex " ++
    (decimal vertices ++
    (codes "\nproperty double x\nproperty double y\nproperty double z\nelement face " ++
    (decimal faces ++ codes "\nproperty list uchar int vertex_indices\nend_header\n")))

abbrev pub ply_text : ℕ → List DecimalPoint → List IndexedTriangle → List ℕ
ply_text places ps ts =
    ply_header (length ps) (length ts) ++ (flat_map (point_line places) ps ++ flat_map listed_face ts)

-- ---- OFF
-- with 0 for the number of edges
unfoldable pub off_header : ℕ → ℕ → List ℕ
off_header vertices faces = codes "OFF\n" ++ (decimal vertices ++ (codes " " ++ (decimal faces ++ codes " 0\n")))

abbrev pub off_text : ℕ → List DecimalPoint → List IndexedTriangle → List ℕ
off_text places ps ts =
    off_header (length ps) (length ts) ++ (flat_map (point_line places) ps ++ flat_map listed_face ts)

-- ---- any of them
abbrev pub text_of : TextFormat → ℕ → List DecimalPoint → List IndexedTriangle → List ℕ
text_of Obj places ps ts = obj_text places ps ts
text_of Ply places ps ts = ply_text places ps ts
text_of Off places ps ts = off_text places ps ts
