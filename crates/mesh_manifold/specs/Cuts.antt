-- Triangles that are cut at the middles of edges
use Rattle.std.specs.Prelude.{◌≡◌, ℕ, ◌+◌, Bool, not, ◌&&◌, ◌||◌, if◌then◌else◌, List, [], ◌∷◌, ◌++◌, flat_map, map}
use Rattle.std.specs.Prelude.{slice_index_or}
use Rattle.std.specs.List.{list_any}
use Rattle.mesh_write.specs.declared.vertices.point.DecimalPoint.{DecimalPoint}
use Rattle.mesh_write.specs.declared.vertices.point.DecimalTriangle.{DecimalTriangle}
use Rattle.mesh_write.specs.Vertices.Vertices.{same_point, IsMeshOf}
use Rattle.mesh_manifold.specs.declared.cut.CutMesh.{CutMesh}
use Rattle.mesh_manifold.specs.declared.cut.Pieces.{Pieces}
use Rattle.mesh_manifold.specs.declared.edge_set.PointEdge.{PointEdge}
use Rattle.mesh_manifold.specs.Middles.{middle}

-- ---- edges
abbrev pub same_edge : PointEdge → PointEdge → Bool
same_edge e f = same_point e.from f.from && same_point e.to f.to

-- the edges, and e behind them if it is new
abbrev pub with_edge : List PointEdge → PointEdge → List PointEdge
with_edge es e = if list_any (same_edge e) es then es else es ++ e ∷ []

-- one of the edges leads from u to v
abbrev pub is_among : List PointEdge → DecimalPoint → DecimalPoint → Bool
is_among es u v = list_any (same_edge (record { from = u; to = v })) es

-- ---- pieces
abbrev pub triangle : DecimalPoint → DecimalPoint → DecimalPoint → DecimalTriangle
triangle u v w = record { a = u; b = v; c = w }

-- the point is no corner of the triangle u, v, w
abbrev pub is_apart : DecimalPoint → DecimalPoint → DecimalPoint → DecimalPoint → Bool
is_apart m u v w = not (same_point m u || (same_point m v || same_point m w))

-- the triangle u, v, w is cut along its edge from u to v
abbrev pub is_cut : List PointEdge → DecimalPoint → DecimalPoint → DecimalPoint → Bool
is_cut es u v w = is_among es u v && is_apart (middle u v) u v w

-- its halves, if it is cut at m
abbrev pub halves_at : DecimalPoint → DecimalPoint → DecimalPoint → DecimalPoint → List DecimalTriangle
halves_at m u v w = triangle u m w ∷ triangle m v w ∷ []

-- its halves, or the triangle itself
abbrev pub halves : List PointEdge → DecimalPoint → DecimalPoint → DecimalPoint → List DecimalTriangle
halves es u v w = if is_cut es u v w then halves_at (middle u v) u v w else triangle u v w ∷ []

-- the triangle's pieces. If two of its edges are cut, so is its piece at the second one
abbrev pub pieces : List PointEdge → DecimalTriangle → List DecimalTriangle
pieces es t =
    if is_cut es t.b t.c t.a
    then halves es t.a t.b (middle t.b t.c) ++ halves es t.c t.a (middle t.b t.c)
    else if is_cut es t.c t.a t.b
    then triangle t.b t.c (middle t.c t.a) ∷ halves es t.a t.b (middle t.c t.a)
    else halves es t.a t.b t.c

-- for each of the pieces the index of the triangle that it is cut of, if the first of the triangles has the index n
abbrev pub origins_from : List PointEdge → ℕ → List DecimalTriangle → List ℕ
origins_from es n [] = []
origins_from es n (t ∷ ts) = map (λ piece. n) (pieces es t) ++ origins_from es (n + 1) ts

-- the triangles are put behind those that were there, and each has this origin
pub record ArePutBehind (us : List DecimalTriangle) (origin : ℕ) (old new : Pieces) : Type 0 where
  pub mesh : (before : List DecimalTriangle) → IsMeshOf before old.mesh → IsMeshOf (before ++ us) new.mesh
  pub origins : new.origins.items ≡ old.origins.items ++ map (λ piece. origin) us

-- ---- meshes
-- the triangles, some of them cut at the middles of their edges
pub record AreCutOf (ts us : List DecimalTriangle) : Type 0 where
  pub edges : List PointEdge
  pub is : us ≡ flat_map (pieces edges) ts

-- the number at the origin's index; what has none gets one that no plane has
abbrev pub plane_of : List ℕ → ℕ → ℕ
plane_of planes origin = slice_index_or planes origin 4294967295

-- a mesh of such triangles; for each of them the index of the triangle that it is cut of, and the plane of this one
pub record IsCutMesh (planes : List ℕ) (ts : List DecimalTriangle) (mesh : CutMesh) : Type 0 where
  pub cut : List DecimalTriangle
  pub are_cut : AreCutOf ts cut
  pub is : IsMeshOf cut mesh.mesh
  pub origins : mesh.origins.items ≡ origins_from are_cut.edges 0 ts
  pub planes_are : mesh.planes.items ≡ map (plane_of planes) mesh.origins.items
