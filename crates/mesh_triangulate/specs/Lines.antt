-- The lines of the edges of triangles
use Rattle.std.specs.Prelude.{◌≡◌, ◌≤◌, ◌⊎◌, ◌↔◌, ℕ, true, Option, Some, None, IsSome, List, [], ◌∷◌}
use Rattle.std.specs.Prelude.{All, Contains, map, nat_eq}
use Rattle.std.specs.HashMap.{get}
use Rattle.mesh_certificate.specs.declared.certificate.segment.Segment.{Segment}
use Rattle.mesh_certificate.specs.declared.certificate.triangle.Triangle.{Triangle}
use Rattle.mesh_certificate.specs.Certificate.Certificate.{is_round, edges_in}
use Rattle.mesh_triangulate.specs.declared.lines.Lines.{Lines}
use Rattle.mesh_triangulate.specs.Diagonals.{edge_key, pair_key, line_at, AreNumbered}

-- ---- of one triangle
-- where its edges start, in turn
abbrev pub corners_of : Triangle → List ℕ
corners_of t = t.first.start ∷ t.second.start ∷ t.third.start ∷ []

-- ---- of one edge
abbrev pub HasEndsOf : Segment → Segment → Type 0
HasEndsOf s e = (s.start ≡ e.start) × (s.end ≡ e.end)

-- a segment of the boundary has the edge's start and end
abbrev pub IsOnBoundary : List Segment → Segment → Type 0
IsOnBoundary ss e = (s : Segment) × Contains ss s × HasEndsOf s e

-- an edge of the boundary has its line, and a diagonal one from the first free line on
pub record HasLine (ss : List Segment) (first : ℕ) (e : Segment) : Type 0 where
  pub boundary : IsOnBoundary ss e → (s : Segment) × Contains ss s × HasEndsOf s e × (s.line ≡ e.line)
  pub diagonal : (IsOnBoundary ss e → ⊥) → first ≤ e.line

-- the edges have the same two ends, in one direction or in both
abbrev pub HaveSamePair : Segment → Segment → Type 0
HaveSamePair e f = HasEndsOf e f ⊎ ((e.start ≡ f.end) × (e.end ≡ f.start))

-- diagonals have one line exactly if they have the same two ends
abbrev pub HaveOwnLines : List Segment → List Segment → Type 0
HaveOwnLines ss es =
    (e f : Segment) → Contains es e → Contains es f →
    (IsOnBoundary ss e → ⊥) → (IsOnBoundary ss f → ⊥) → (e.line ≡ f.line) ↔ HaveSamePair e f

-- the triangles have these corners in this plane, and their edges have lines
pub record AreWithLines (p : ℕ) (ss : List Segment) (cs : List (List ℕ)) (first : ℕ) (ts : List Triangle) : Type 0 where
  pub corners : map corners_of ts ≡ cs
  pub round : All (λ t. is_round t ≡ true) ts
  pub plane : All (λ t. t.first.plane ≡ p) ts
  pub lines : All (HasLine ss first) (edges_in ts)
  pub own : HaveOwnLines ss (edges_in ts)

-- ---- whole parts
-- a segment from the first corner to the second is on the line
abbrev pub IsLineOf : List Segment → ℕ → ℕ → ℕ → Type 0
IsLineOf ss start end line =
    (s : Segment) × Contains ss s × (s.start ≡ start) × (s.end ≡ end) × (s.line ≡ line)

-- the edge is a segment, but for its plane
abbrev pub IsSide : List Segment → Segment → Type 0
IsSide ss e = IsLineOf ss e.start e.end e.line

-- the edges of the triangle lead round the corners in the plane, and are sides
pub record IsWhole (p : ℕ) (ss : List Segment) (cs : List ℕ) (t : Triangle) : Type 0 where
  pub corners : corners_of t ≡ cs
  pub round : is_round t ≡ true
  pub plane : t.first.plane ≡ p
  pub sides : All (IsSide ss) (edges_in (t ∷ []))

-- ---- tables of lines
-- exactly the keys of the segments have lines, each that of a segment
pub record AreLinesOf (ss : List Segment) (lines : ℕ → Option ℕ) : Type 0 where
  pub sound : (key line : ℕ) → lines key ≡ Some line →
      (s : Segment) × Contains ss s × (edge_key s.start s.end ≡ key) × (s.line ≡ line)
  pub complete : (s : Segment) → Contains ss s → IsSome (lines (edge_key s.start s.end))

abbrev pub boundary_line : Lines → ℕ → Option ℕ
boundary_line ls key = get nat_eq ls.boundary key

-- the line of an edge, in the table of the boundary or otherwise in that of the diagonals
abbrev pub IsLineIn : Lines → ℕ → ℕ → ℕ → Type 0
IsLineIn ls start end line =
    (boundary_line ls (edge_key start end) ≡ Some line) ⊎
    ((boundary_line ls (edge_key start end) ≡ None) × (line_at ls.diagonals (pair_key start end) ≡ Some line))

abbrev pub HasLineIn : Lines → Segment → Type 0
HasLineIn ls e = IsLineIn ls e.start e.end e.line

pub record AreRight (ss : List Segment) (first : ℕ) (ls : Lines) : Type 0 where
  pub boundary : AreLinesOf ss (boundary_line ls)
  pub diagonals : AreNumbered (line_at ls.diagonals) first ls.diagonals.next
  pub next : first ≤ ls.diagonals.next

-- each edge keeps its line, and tables that are right stay so
pub record AreExtended (before after : Lines) : Type 0 where
  pub kept : (start end line : ℕ) → IsLineIn before start end line → IsLineIn after start end line
  pub right : (ss : List Segment) (first : ℕ) → AreRight ss first before → AreRight ss first after

-- the edges of the triangle lead round the corners in the plane, and have lines in the tables
pub record IsNamed (p : ℕ) (cs : List ℕ) (ls : Lines) (t : Triangle) : Type 0 where
  pub corners : corners_of t ≡ cs
  pub round : is_round t ≡ true
  pub plane : t.first.plane ≡ p
  pub lines : All (HasLineIn ls) (edges_in (t ∷ []))

-- the same of triangles, one for each list of corners
pub record AreNamed (p : ℕ) (cs : List (List ℕ)) (ls : Lines) (ts : List Triangle) : Type 0 where
  pub corners : map corners_of ts ≡ cs
  pub round : All (λ t. is_round t ≡ true) ts
  pub plane : All (λ t. t.first.plane ≡ p) ts
  pub lines : All (HasLineIn ls) (edges_in ts)
