-- The least edge that occurs more often than its reverse
use Rattle.std.specs.Prelude.{◌≡◌, ◌<◌, ◌≤◌, nat_lt, Bool, true, false, ◌&&◌, ◌||◌, if◌then◌else◌}
use Rattle.std.specs.Prelude.{Option, Some, None, List, [], ◌∷◌, filter, ℤ, ◌-ℤ◌}
use Rattle.ember_algebra.specs.Sign.{is_negative, is_zero}
use Rattle.ember_model.specs.declared.tri.Tri.{Tri}
use Rattle.ember_model.specs.Meshes.{Edge, reversed, edges_in, edge_count}
use Rattle.ember_balance.specs.declared.loose.Loose.{Loose}

-- the order of lists by their first difference
abbrev pub precedes : List ℤ → List ℤ → Bool
precedes [] ys = false
precedes (x ∷ xs) [] = false
precedes (x ∷ xs) (y ∷ ys) = is_negative (x -ℤ y) || (is_zero (x -ℤ y) && precedes xs ys)

-- x, y and z of the start and then of the end
abbrev pub coordinates : Edge → List ℤ
coordinates e = e.from.x ∷ e.from.y ∷ e.from.z ∷ e.to.x ∷ e.to.y ∷ e.to.z ∷ []

-- the order of edges, by x, y and z of the start and then of the end
abbrev pub comes_before : Edge → Edge → Bool
comes_before e f = precedes (coordinates e) (coordinates f)

-- ---- as a function
-- the edge occurs more often than its reverse
abbrev pub is_loose : List Edge → Edge → Bool
is_loose es e = nat_lt (edge_count (reversed e) es) (edge_count e es)

-- the least of an edge and further ones
abbrev pub least_from : Edge → List Edge → Edge
least_from e [] = e
least_from e (f ∷ fs) = least_from (if comes_before f e then f else e) fs

-- the edge, how often it occurs among these edges, and how often its reverse does
abbrev pub with_counts : List Edge → Edge → Loose
with_counts es e =
    record { from = e.from; to = e.to; there = edge_count e es; back = edge_count (reversed e) es }

-- the least of the second edges, counted among the first
abbrev pub least_of : List Edge → List Edge → Option Loose
least_of es [] = None
least_of es (e ∷ fs) = Some (with_counts es (least_from e fs))

-- the least loose edge of the triangles with its counts, if there is one
unfoldable pub loose_of : List Tri → Option Loose
loose_of ts = least_of (edges_in ts) (filter (is_loose (edges_in ts)) (edges_in ts))

-- ---- as a property
abbrev pub edge_of : Loose → Edge
edge_of l = record { from = l.from; to = l.to }

-- the edge occurs more often than its reverse, and none before it does
pub record IsLeastLoose (ts : List Tri) (l : Loose) : Type 0 where
  pub there : l.there ≡ edge_count (edge_of l) (edges_in ts)
  pub back : l.back ≡ edge_count (reversed (edge_of l)) (edges_in ts)
  pub more : l.back < l.there
  pub least : (e : Edge) → comes_before e (edge_of l) ≡ true →
      edge_count e (edges_in ts) ≤ edge_count (reversed e) (edges_in ts)
