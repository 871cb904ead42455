-- Edges as numbers
use Rattle.std.specs.Prelude.{◌≡◌, ℕ, ◌+◌, ◌*◌, ◌/◌, ◌%◌, ◌^◌, nat_lt, nat_eq, Bool, false}
use Rattle.std.specs.Prelude.{if◌then◌else◌, List, map, ℤ, pos, ◌+ℤ◌, unsigned_abs}
use Rattle.std.specs.List.Sorted.{IsPermutation, IsNonDecreasing}
use Rattle.ember_model.specs.declared.point.Corner.{Corner}
use Rattle.ember_model.specs.declared.tri.Tri.{Tri}
use Rattle.ember_model.specs.Limits.{broad_limit}
use Rattle.ember_model.specs.Meshes.{Edge, reversed, edges_in}
use Rattle.ember_model.specs.Within.{IsCornerWithin}
use Rattle.ember_balance.specs.Counts.{count}

-- from 0 to 1,048,574
abbrev pub digit : ℤ → ℕ
digit z = unsigned_abs (z +ℤ pos 524287)

-- the digits x, y and z to the base 2^20
abbrev pub corner_number : Corner → ℕ
corner_number c = (digit c.x * 1048576 + digit c.y) * 1048576 + digit c.z

-- the number of an edge: those of its start and its end, 60 bits each
abbrev pub edge_number : Edge → ℕ
edge_number e = corner_number e.from * 2 ^ 60 + corner_number e.to

-- one number for an edge and its reverse, doubled; one more for an edge to a corner of lower number
abbrev pub two_way_number : Edge → ℕ
two_way_number e =
    if nat_lt (corner_number e.to) (corner_number e.from) then 2 * edge_number (reversed e) + 1 else 2 * edge_number e

-- of the edge with this number both ends are one corner
abbrev pub has_one_end : ℕ → Bool
has_one_end n = nat_eq (n / 2 ^ 60) (n % 2 ^ 60)

-- of the two-way numbers, each edge with two ends has one direction as often as the other
pub record AreTwoWay (ks : List ℕ) : Type 0 where
  pub each : (n : ℕ) → has_one_end n ≡ false → count (2 * n) ks ≡ count (2 * n + 1) ks

-- both ends are on the broad grid
pub record IsBroadEdge (e : Edge) : Type 0 where
  pub from : IsCornerWithin broad_limit e.from
  pub to : IsCornerWithin broad_limit e.to

-- the numbers of the edges of the triangles, and those of their reverses, each list in order
pub record AreNumbers (ts : List Tri) (ns rs : List ℕ) : Type 0 where
  pub there : IsPermutation (map edge_number (edges_in ts)) ns
  pub back : IsPermutation (map edge_number (map reversed (edges_in ts))) rs
  pub there_rises : IsNonDecreasing ns
  pub back_rises : IsNonDecreasing rs
