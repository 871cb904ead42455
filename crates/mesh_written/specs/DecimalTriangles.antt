-- Triangles of decimals
use Rattle.std.specs.Prelude.{◌≡◌, ℕ, ◌+◌, Bool, not, ◌||◌, if◌then◌else◌, List, [], ◌∷◌, ◌++◌, length, map, filter}
use Rattle.mesh_grid.specs.declared.snap.steps.GridStep.{GridStep}
use Rattle.mesh_grid.specs.declared.snap.offsets.Offset.{Offset}
use Rattle.mesh_write.specs.declared.vertices.point.DecimalPoint.{DecimalPoint}
use Rattle.mesh_write.specs.declared.vertices.point.DecimalTriangle.{DecimalTriangle}
use Rattle.mesh_write.specs.Vertices.Vertices.{same_point, point_at, IsMeshOf}
use Rattle.mesh_point.specs.declared.space_point.SpacePoint.{SpacePoint}
use Rattle.mesh_certificate.specs.declared.certificate.triangle.Triangle.{Triangle}
use Rattle.mesh_written.specs.declared.decimal_triangles.DecimalMesh.{DecimalMesh}
use Rattle.mesh_written.specs.Decimals.{decimal_point}

-- the triangle with points for its corners
abbrev pub triangle_at : List DecimalPoint → Triangle → DecimalTriangle
triangle_at ps t = record {
  a = point_at ps t.first.start;
  b = point_at ps t.second.start;
  c = point_at ps t.third.start;
}

-- two of its corners are equal
abbrev pub vanishes : DecimalTriangle → Bool
vanishes t = same_point t.a t.b || (same_point t.b t.c || same_point t.c t.a)

-- those of which no two corners became equal, in order
abbrev pub kept : List DecimalPoint → List Triangle → List Triangle
kept ps ts = filter (λ t. not (vanishes (triangle_at ps t))) ts

-- the indices of these, if the first triangle of the list has the index n
abbrev pub indices_from : ℕ → List DecimalPoint → List Triangle → List ℕ
indices_from n ps [] = []
indices_from n ps (t ∷ ts) =
    if vanishes (triangle_at ps t) then indices_from (n + 1) ps ts else n ∷ indices_from (n + 1) ps ts

abbrev pub plane_of : Triangle → ℕ
plane_of t = t.first.plane

-- the triangles that are kept, with their corners rounded
abbrev pub decimal_triangles : ℕ → GridStep → Offset → List SpacePoint → List Triangle → List DecimalTriangle
decimal_triangles places s o cs ts =
    let ps = map (decimal_point places s o) cs in map (triangle_at ps) (kept ps ts)

-- and the numbers of their planes
abbrev pub decimal_planes : ℕ → GridStep → Offset → List SpacePoint → List Triangle → List ℕ
decimal_planes places s o cs ts = map plane_of (kept (map (decimal_point places s o) cs) ts)

-- and their indices among the triangles
abbrev pub decimal_origins : ℕ → GridStep → Offset → List SpacePoint → List Triangle → List ℕ
decimal_origins places s o cs ts = indices_from 0 (map (decimal_point places s o) cs) ts

-- the mesh of triangles over these points
pub record IsMeshOver (ps : List DecimalPoint) (ts : List Triangle) (written : DecimalMesh) : Type 0 where
  pub mesh : IsMeshOf (map (triangle_at ps) (kept ps ts)) written.mesh
  pub planes : written.planes.items ≡ map plane_of (kept ps ts)
  pub origins : written.origins.items ≡ indices_from 0 ps ts

-- it is so of each list of this length whose mesh this is
abbrev pub IfOver : List DecimalPoint → ℕ → DecimalMesh → (List Triangle → Type 0) → Type 0
IfOver ps index written Is = (before : List Triangle) → length before ≡ index → IsMeshOver ps before written → Is before

-- the mesh with one more triangle
abbrev pub IsMeshWith : List DecimalPoint → List Triangle → Triangle → DecimalMesh → Type 0
IsMeshWith ps before t written = IsMeshOver ps (before ++ t ∷ []) written

-- ---- what is made of the triangles of a table of corners
abbrev pub HasDecimalTriangles : ℕ → GridStep → Offset → List SpacePoint → List Triangle → DecimalMesh → Type 0
HasDecimalTriangles places s o cs ts written = IsMeshOf (decimal_triangles places s o cs ts) written.mesh

abbrev pub HasDecimalPlanes : ℕ → GridStep → Offset → List SpacePoint → List Triangle → DecimalMesh → Type 0
HasDecimalPlanes places s o cs ts written = written.planes.items ≡ decimal_planes places s o cs ts

abbrev pub HasDecimalOrigins : ℕ → GridStep → Offset → List SpacePoint → List Triangle → DecimalMesh → Type 0
HasDecimalOrigins places s o cs ts written = written.origins.items ≡ decimal_origins places s o cs ts
