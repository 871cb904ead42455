-- The OBJ of a mesh on its grid
use Rattle.std.specs.Prelude.{ℕ, ◌==◌, List, ◌++◌, codes, map, filter}
use Rattle.ember_model.specs.declared.point.Corner.{Corner}
use Rattle.ember_model.specs.declared.tri.Tri.{Tri}
use Rattle.mesh_write.specs.declared.vertices.point.DecimalPoint.{DecimalPoint}
use Rattle.mesh_write.specs.declared.vertices.point.DecimalTriangle.{DecimalTriangle}
use Rattle.mesh_write.specs.Vertices.Vertices.{vertices_of, indexed}
use Rattle.mesh_write.specs.Text.Texts.{obj_lines}

-- a corner as a point of decimals without places
abbrev pub point_of : Corner → DecimalPoint
point_of c = record { x = c.x; y = c.y; z = c.z }

abbrev pub triangle_of : Tri → DecimalTriangle
triangle_of t = record { a = point_of t.a; b = point_of t.b; c = point_of t.c }

-- the triangles with this mesh number
abbrev pub of_mesh : ℕ → List Tri → List Tri
of_mesh mesh ts = filter (λ t. t.mesh == mesh) ts

-- as triangles of decimals
abbrev pub triangles_of : ℕ → List Tri → List DecimalTriangle
triangles_of mesh ts = map triangle_of (of_mesh mesh ts)

-- a comment, a line for each position in the order of first use, and a line for each triangle
abbrev pub mesh_text : List DecimalTriangle → List ℕ
mesh_text ts =
    codes "# ember-mesh: on the grid of scene.json\n" ++
    obj_lines 0 (vertices_of ts) (map (indexed (vertices_of ts)) ts)
