-- Edges of more than two triangles
use Rattle.std.specs.Prelude.{◌≡◌, ℕ, ◌+◌, nat_eq, nat_lt, Bool, ◌&&◌, ◌||◌, if◌then◌else◌, List, []}
use Rattle.std.specs.Prelude.{◌∷◌, ◌++◌, length, map}
use Rattle.std.specs.List.{list_any}
use Rattle.ember_algebra.specs.Sums.{occurrences}
use Rattle.mesh_write.specs.declared.stl.triangle.FloatPoint.{FloatPoint}
use Rattle.mesh_write.specs.declared.stl.triangle.FloatTriangle.{FloatTriangle}
use Rattle.mesh_write.specs.declared.vertices.point.IndexedTriangle.{IndexedTriangle}
use Rattle.mesh_written.specs.declared.shared.EdgeKey.{EdgeKey}
use Rattle.mesh_written.specs.declared.shared_by_index.IndexEdge.{IndexEdge}
use Rattle.mesh_written.specs.Triangles.{same_point}
use Rattle.mesh_written.specs.Closed.{Positions, edges_between, positions_of, indices_of}

-- ---- positions of any type
-- more than two triangles have an edge between p and q, in one direction or the other
abbrev pub is_shared : {P : Type 0} → (P → P → Bool) → List (Positions P) → P → P → Bool
is_shared same ts p q = nat_lt 2 (edges_between same p q ts + edges_between same q p ts)

-- so many edges belong to more than two triangles: a list has the key of each of them once, by the lower end first, and
-- no other. `key` makes the key of the edge between two positions, and `same_key` says whether two keys are equal
pub record IsCountOfShared {P K : Type 0} (same lower : P → P → Bool) (key : P → P → K) (same_key : K → K → Bool)
    (ts : List (Positions P)) (count : ℕ) : Type 0 where
  pub listed : List K
  pub each : (p q : P) →
      occurrences same_key (key p q) listed ≡ (if lower p q && is_shared same ts p q then 1 else 0)
  pub count_is : count ≡ length listed

-- ---- floats
-- p comes before q by the bits of x, of y and of z
abbrev pub is_lower : FloatPoint → FloatPoint → Bool
is_lower p q = nat_lt p.x q.x || (nat_eq p.x q.x && (nat_lt p.y q.y || (nat_eq p.y q.y && nat_lt p.z q.z)))

-- the edge from p to q
abbrev pub key_between : FloatPoint → FloatPoint → EdgeKey
key_between p q =
    record { from_x = p.x; from_y = p.y; from_z = p.z; to_x = q.x; to_y = q.y; to_z = q.z }

abbrev pub same_ends : EdgeKey → EdgeKey → Bool
same_ends k l =
    nat_eq k.from_x l.from_x && (nat_eq k.from_y l.from_y && (nat_eq k.from_z l.from_z && (nat_eq k.to_x l.to_x &&
    (nat_eq k.to_y l.to_y && nat_eq k.to_z l.to_z))))

-- so many edges belong to more than two of the written triangles
abbrev pub IsSharedCount : List FloatTriangle → ℕ → Type 0
IsSharedCount ws count = IsCountOfShared same_point is_lower key_between same_ends (map positions_of ws) count

-- ---- vertices
-- the edge from u to v
abbrev pub index_edge : ℕ → ℕ → IndexEdge
index_edge u v = record { from = u; to = v }

abbrev pub same_edge : IndexEdge → IndexEdge → Bool
same_edge e f = nat_eq e.from f.from && nat_eq e.to f.to

-- so many edges belong to more than two of the triangles over vertices
abbrev pub IsSharedIndexCount : List IndexedTriangle → ℕ → Type 0
IsSharedIndexCount ts count = IsCountOfShared nat_eq nat_lt index_edge same_edge (map indices_of ts) count

-- ---- as they are counted
abbrev pub has_key : {K : Type 0} → (K → K → Bool) → List K → K → Bool
has_key same_key keys k = list_any (same_key k) keys

-- the keys with one more, unless they have it
abbrev pub with_key : {K : Type 0} → (K → K → Bool) → List K → K → List K
with_key same_key keys k = if has_key same_key keys k then keys else keys ++ k ∷ []

-- the edge from p to q, if p comes before q
abbrev pub rising : {P K : Type 0} → (P → P → Bool) → (P → P → K) → P → P → List K
rising lower key p q = if lower p q then key p q ∷ [] else []

-- those of the triangles' edges whose start comes before their end
abbrev pub rising_edges : {P K : Type 0} → (P → P → Bool) → (P → P → K) → List (Positions P) → List K
rising_edges lower key [] = []
rising_edges lower key (t ∷ ts) =
    rising lower key t.a t.b ++ (rising lower key t.b t.c ++ (rising lower key t.c t.a ++ rising_edges lower key ts))

-- 1 if n is more than m
abbrev pub one_above : ℕ → ℕ → ℕ
one_above m n = if nat_lt m n then 1 else 0

-- `once` has each of the keys once, and `again` has each that occurs more than once
pub record AreNoted {K : Type 0} (same_key : K → K → Bool) (keys once again : List K) : Type 0 where
  pub all : (k : K) → occurrences same_key k once ≡ one_above 0 (occurrences same_key k keys)
  pub repeated : (k : K) → occurrences same_key k again ≡ one_above 1 (occurrences same_key k keys)
