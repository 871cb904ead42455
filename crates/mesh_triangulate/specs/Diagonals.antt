-- Lines of diagonals by the keys of their pairs of corners
use Rattle.std.specs.Prelude.{◌≡◌, ◌<◌, ◌≤◌, ℕ, ◌+◌, ◌*◌, Option, Some, min, max, nat_eq}
use Rattle.std.specs.HashMap.{get}
use Rattle.mesh_triangulate.specs.declared.diagonals.Diagonals.{Diagonals}

-- the digits start and end to the base 2^32
abbrev pub edge_key : ℕ → ℕ → ℕ
edge_key start end = start * 4294967296 + end

-- the same for both directions
abbrev pub pair_key : ℕ → ℕ → ℕ
pair_key start end = edge_key (min start end) (max start end)

-- the line of a pair's key
abbrev pub line_at : Diagonals → ℕ → Option ℕ
line_at d key = get nat_eq d.lines key

-- each line is from the first on and before the next, and belongs to one key
pub record AreNumbered (lines : ℕ → Option ℕ) (first next : ℕ) : Type 0 where
  pub from_first : (key line : ℕ) → lines key ≡ Some line → first ≤ line
  pub below_next : (key line : ℕ) → lines key ≡ Some line → line < next
  pub own : (key other line : ℕ) → lines key ≡ Some line → lines other ≡ Some line → key ≡ other

-- each key keeps its line, and numbered lines stay so
pub record AreExtended (before after : Diagonals) : Type 0 where
  pub kept : (key line : ℕ) → line_at before key ≡ Some line → line_at after key ≡ Some line
  pub numbered : (first : ℕ) → AreNumbered (line_at before) first before.next →
      first ≤ before.next → AreNumbered (line_at after) first after.next
  pub next : before.next ≤ after.next
