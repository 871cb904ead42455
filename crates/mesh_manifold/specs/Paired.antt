-- Edges that have two triangles each
use Rattle.std.specs.Prelude.{◌≡◌, Bool, true, false, not, ◌&&◌, ◌||◌, ◌==◌, nat_lt, List, [], ◌∷◌, IsPermutation}
use Rattle.mesh_write.specs.declared.vertices.point.IndexedTriangle.{IndexedTriangle}
use Rattle.mesh_manifold.specs.declared.edges.HalfEdge.{HalfEdge}
use Rattle.mesh_manifold.specs.Edges.{edges_from}

-- they lead forward and back between the same vertices
abbrev pub is_pair : HalfEdge → HalfEdge → Bool
is_pair e f = e.low == f.low && (e.high == f.high && (not e.is_back && f.is_back))

-- the vertices of one come before those of the other
abbrev pub is_earlier : HalfEdge → HalfEdge → Bool
is_earlier e f = nat_lt e.low f.low || (e.low == f.low && nat_lt e.high f.high)

abbrev pub is_earlier_than_all : HalfEdge → List HalfEdge → Bool
is_earlier_than_all e [] = true
is_earlier_than_all e (f ∷ fs) = is_earlier e f

abbrev pub is_first_pair : HalfEdge → HalfEdge → List HalfEdge → Bool
is_first_pair e f es = is_pair e f && is_earlier_than_all e es

-- pairs, each between later vertices than those before it
abbrev pub is_paired : List HalfEdge → Bool
is_paired [] = true
is_paired (e ∷ []) = false
is_paired (e ∷ f ∷ es) = is_first_pair e f es && is_paired es

-- each edge of the triangles has two of them, which lead along it in opposite directions
pub record IsManifold (ts : List IndexedTriangle) : Type 0 where
  pub edges : List HalfEdge
  pub all : IsPermutation (edges_from 0 ts) edges
  pub paired : is_paired edges ≡ true
