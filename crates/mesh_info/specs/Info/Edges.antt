-- The edges of triangles over vertices, and how often each is used
use Rattle.std.specs.Prelude.{ℕ, ◌+◌, ◌-◌, nat_lt, nat_eq, Bool, true, false, ◌&&◌, not, if◌then◌else◌}
use Rattle.std.specs.Prelude.{List, [], ◌∷◌, ◌++◌, map, length, fold, sum_by, count_by}
use Rattle.std.specs.List.{list_any, position_or_len, range_with_len}
use Rattle.mesh_write.specs.declared.vertices.point.IndexedTriangle.{IndexedTriangle}
use Rattle.mesh_info.specs.declared.info.edges.Edge.{Edge}
use Rattle.mesh_info.specs.declared.info.edges.Side.{Side}
use Rattle.mesh_info.specs.declared.info.edges.Uses.{Uses}

-- the side of a triangle from one vertex to another; none if they are one
abbrev pub side_between : ℕ → ℕ → List Side
side_between u v =
    if nat_eq u v then []
    else (if nat_lt u v then record { edge = record { low = u; high = v }; rises = true } ∷ []
    else record { edge = record { low = v; high = u }; rises = false } ∷ [])

abbrev pub sides_in : IndexedTriangle → List Side
sides_in t = side_between t.a t.b ++ (side_between t.b t.c ++ side_between t.c t.a)

-- the sides of all triangles
abbrev pub sides_of : List IndexedTriangle → List Side
sides_of [] = []
sides_of (t ∷ ts) = sides_in t ++ sides_of ts

abbrev pub same_edge : Edge → Edge → Bool
same_edge e f = nat_eq e.low f.low && nat_eq e.high f.high

-- the edges, and e behind them if it is new
abbrev pub with_edge : List Edge → Edge → List Edge
with_edge es e = if list_any (same_edge e) es then es else es ++ e ∷ []

-- the edges of sides, each once
unfoldable pub edges_of : List Side → List Edge
edges_of sides = fold with_edge [] (map (λ s. s.edge) sides)

-- the number of the side's edge among these, from 0
abbrev pub number_in : List Edge → Side → ℕ
number_in es s = position_or_len (same_edge s.edge) es

-- how many sides run along the edge with this number, in each direction
abbrev pub uses_at : List Edge → List Side → ℕ → Uses
uses_at es sides n = record {
  up = count_by (λ s. nat_eq (number_in es s) n && s.rises) sides;
  down = count_by (λ s. nat_eq (number_in es s) n && not s.rises) sides;
}

-- the same for each edge
unfoldable pub uses_of : List Side → List Uses
uses_of sides = map (uses_at (edges_of sides) sides) (range_with_len 0 (length (edges_of sides)))

-- one side more
abbrev pub with_use : Bool → Uses → Uses
with_use rises u = record { up = u.up + (if rises then 1 else 0); down = u.down + (if not rises then 1 else 0) }

-- by how much one direction is used more often than the other
abbrev pub surplus : Uses → ℕ
surplus u = (u.up - u.down) + (u.down - u.up)

-- more than two triangles have the edge
abbrev pub is_crowded : Uses → Bool
is_crowded u = nat_lt 2 (u.up + u.down)

-- the number of loose edges: the surplus of all edges together
abbrev pub loose_edges : List IndexedTriangle → ℕ
loose_edges ts = sum_by surplus (uses_of (sides_of ts))

-- the number of edges of more than two triangles
abbrev pub shared_edges : List IndexedTriangle → ℕ
shared_edges ts = count_by is_crowded (uses_of (sides_of ts))
