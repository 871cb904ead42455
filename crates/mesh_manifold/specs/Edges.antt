-- The edges of triangles
use Rattle.std.specs.Prelude.{ℕ, ◌+◌, Bool, true, false, ◌&&◌, ◌==◌, nat_lt, if◌then◌else◌, List, [], ◌∷◌, ◌++◌}
use Rattle.mesh_write.specs.declared.vertices.point.IndexedTriangle.{IndexedTriangle}
use Rattle.mesh_manifold.specs.declared.edges.HalfEdge.{HalfEdge}

-- an edge from one vertex to another that starts at a corner
abbrev pub half_edge : ℕ → ℕ → ℕ → HalfEdge
half_edge from to corner =
    if nat_lt from to
    then record { low = from; high = to; is_back = false; corner = corner }
    else record { low = to; high = from; is_back = true; corner = corner }

-- the edges of a triangle whose first corner has this number
abbrev pub edges_of : ℕ → IndexedTriangle → List HalfEdge
edges_of first t = half_edge t.a t.b first ∷ half_edge t.b t.c (first + 1) ∷ half_edge t.c t.a (first + 2) ∷ []

-- the edges of triangles, the first of which has this first corner
abbrev pub edges_from : ℕ → List IndexedTriangle → List HalfEdge
edges_from first [] = []
edges_from first (t ∷ ts) = edges_of first t ++ edges_from (first + 3) ts

-- both are between the same two vertices
abbrev pub is_beside : HalfEdge → HalfEdge → Bool
is_beside e f = e.low == f.low && e.high == f.high
