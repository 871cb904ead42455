-- Closed triangles, by the positions of their corners
use Rattle.std.specs.Prelude.{◌≡◌, ℕ, ◌+◌, nat_eq, Bool, true, ◌&&◌, if◌then◌else◌, List, [], ◌∷◌, map, All}
use Rattle.mesh_write.specs.declared.stl.triangle.FloatPoint.{FloatPoint}
use Rattle.mesh_write.specs.declared.stl.triangle.FloatTriangle.{FloatTriangle}
use Rattle.mesh_write.specs.declared.vertices.point.DecimalPoint.{DecimalPoint}
use Rattle.mesh_write.specs.declared.vertices.point.DecimalTriangle.{DecimalTriangle}
use Rattle.mesh_write.specs.declared.vertices.point.IndexedTriangle.{IndexedTriangle}
use Rattle.mesh_write.specs.Vertices.Vertices as vertices
use Rattle.mesh_certificate.specs.declared.certificate.triangle.Triangle.{Triangle}
use Rattle.mesh_certificate.specs.Certificate.Certificate.{leads_round, edges_in}
use Rattle.mesh_certificate.specs.Certificate.Closed.{AreSegmentsClosed}
use Rattle.mesh_written.specs.Triangles.{same_point}

-- ---- exact corners
-- each triangle leads around its corners, and from each corner to each other one run as many edges as back
pub record AreRoundAndClosed (ts : List Triangle) : Type 0 where
  pub round : All (λ t. leads_round t ≡ true) ts
  pub closed : AreSegmentsClosed (edges_in ts)

-- ---- positions of any type
-- the positions of the three corners of a triangle
pub record Positions (P : Type 0) : Type 0 where
  pub a : P
  pub b : P
  pub c : P

-- 1 if the edge from u to v is the one from p to q, where `same` says whether two positions are equal
abbrev pub one_if_edge : {P : Type 0} → (P → P → Bool) → P → P → P → P → ℕ
one_if_edge same p q u v = if same p u && same q v then 1 else 0

-- how many edges of the triangles run from p to q
abbrev pub edges_between : {P : Type 0} → (P → P → Bool) → P → P → List (Positions P) → ℕ
edges_between same p q [] = 0
edges_between same p q (t ∷ ts) =
    one_if_edge same p q t.a t.b +
    (one_if_edge same p q t.b t.c + (one_if_edge same p q t.c t.a + edges_between same p q ts))

-- from each position to each other one run as many edges as back
pub record AreTrianglesClosed {P : Type 0} (same : P → P → Bool) (ts : List (Positions P)) : Type 0 where
  pub each : (p q : P) → edges_between same p q ts ≡ edges_between same q p ts

-- ---- positions of floats
abbrev pub positions_of : FloatTriangle → Positions FloatPoint
positions_of t = record { a = t.a; b = t.b; c = t.c }

-- the written triangles are closed: corners with equal coordinates have one position
abbrev pub AreWrittenClosed : List FloatTriangle → Type 0
AreWrittenClosed ws = AreTrianglesClosed same_point (map positions_of ws)

-- ---- positions of decimals
abbrev pub decimal_positions : DecimalTriangle → Positions DecimalPoint
decimal_positions t = record { a = t.a; b = t.b; c = t.c }

-- the triangles of decimals are closed: equal points are one position
abbrev pub AreDecimalsClosed : List DecimalTriangle → Type 0
AreDecimalsClosed ts = AreTrianglesClosed vertices.same_point (map decimal_positions ts)

-- ---- vertices
abbrev pub indices_of : IndexedTriangle → Positions ℕ
indices_of t = record { a = t.a; b = t.b; c = t.c }

-- the triangles over vertices are closed: each vertex is a position of its own
abbrev pub AreIndicesClosed : List IndexedTriangle → Type 0
AreIndicesClosed ts = AreTrianglesClosed nat_eq (map indices_of ts)
