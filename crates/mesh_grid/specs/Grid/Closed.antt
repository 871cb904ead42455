-- When a surface is closed: by the positions of its corners
use Rattle.std.specs.Prelude.{◌≡◌, ℕ, suc, nat_eq, Bool, ◌&&◌, List, [], ◌∷◌, pos, ◌-ℤ◌, ◌*ℤ◌, Option}
use Rattle.std.specs.Prelude.{Some, None, if◌then◌else◌, slice_get, slice_index}
use Rattle.ember_algebra.specs.Sign.{is_zero}
use Rattle.ember_algebra.specs.Sums.{occurrences}
use Rattle.mesh_number.specs.Number.Fractions.{Fraction}
use Rattle.mesh_number.specs.Number.Values.{value_of}
use Rattle.mesh_read.specs.declared.surface.surface.Vertex.{Vertex}
use Rattle.mesh_read.specs.declared.surface.surface.Facet.{Facet}
use Rattle.mesh_read.specs.declared.surface.surface.Surface.{Surface}

-- a directed edge between two positions, each given by its number
pub record Arc : Type 0 where
  pub from : ℕ
  pub to : ℕ

-- the reverse
abbrev pub turned : Arc → Arc
turned a = record { from = a.to; to = a.from }

abbrev pub same_arc : Arc → Arc → Bool
same_arc a b = nat_eq a.from b.from && nat_eq a.to b.to

abbrev pub arc_count : Arc → List Arc → ℕ
arc_count a arcs = occurrences same_arc a arcs

-- the directed edges of triangles, where `position` gives the position of each corner
abbrev pub arcs_in : (ℕ → ℕ) → List Facet → List Arc
arcs_in position [] = []
arcs_in position (f ∷ fs) =
    let a = position (slice_index f.corners 0) in
    let b = position (slice_index f.corners 1) in
    let c = position (slice_index f.corners 2) in
    record { from = a; to = b } ∷ record { from = b; to = c } ∷ record { from = c; to = a } ∷ arcs_in position fs

-- each directed edge between two different positions occurs as often as its reverse
abbrev pub AreClosed : (ℕ → ℕ) → List Facet → Type 0
AreClosed position fs = (a : Arc) → (a.from ≡ a.to → ⊥) →
    arc_count a (arcs_in position fs) ≡ arc_count (turned a) (arcs_in position fs)

-- ---- the positions of a surface
-- the fractions are equal
abbrev pub is_same_number : Fraction → Fraction → Bool
is_same_number v w = is_zero (v.numerator *ℤ pos w.denominator -ℤ w.numerator *ℤ pos v.denominator)

-- the two vertices have the same coordinates
abbrev pub is_same_position : Vertex → Vertex → Bool
is_same_position v w =
    is_same_number (value_of v.x) (value_of w.x) &&
    (is_same_number (value_of v.y) (value_of w.y) && is_same_number (value_of v.z) (value_of w.z))

-- the index of the first vertex at the position of v
abbrev pub first_at : Vertex → List Vertex → ℕ
first_at v [] = 0
first_at v (w ∷ ws) = if is_same_position w v then 0 else suc (first_at v ws)

-- the number of a position: the index of the first vertex there
abbrev pub position_from : List Vertex → ℕ → Option Vertex → ℕ
position_from vertices index None = index
position_from vertices index (Some v) = first_at v vertices

abbrev pub position_of : List Vertex → ℕ → ℕ
position_of vertices index = position_from vertices index (slice_get vertices index)

-- the surface is closed by the positions of its vertices
abbrev pub IsSurfaceClosed : Surface → Type 0
IsSurfaceClosed s = AreClosed (position_of s.vertices.items) s.facets.items
