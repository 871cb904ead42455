-- What the cells of many numbers span
use Rattle.std.specs.Prelude.{◌≡◌, ◌⊎◌, ℕ, ◌*◌, ◌<◌, true, ℤ, pos, ◌+ℤ◌, ◌-ℤ◌, ◌≤ℤ◌, List, length, All, Any}
use Rattle.mesh_number.specs.declared.number.values.Number.{Number}
use Rattle.mesh_number.specs.Number.Fractions.{is_below_limit}
use Rattle.mesh_number.specs.Number.Values.{value_of}
use Rattle.ember_model.specs.Limits.{narrow_limit}
use Rattle.mesh_grid.specs.declared.snap.steps.GridStep.{GridStep}
use Rattle.mesh_grid.specs.declared.snap.spans.Coordinates.{Coordinates}
use Rattle.mesh_grid.specs.declared.snap.spans.CellRange.{CellRange}
use Rattle.mesh_grid.specs.declared.snap.spans.CellRanges.{CellRanges}
use Rattle.mesh_grid.specs.declared.snap.search.FarPair.{FarPair}
use Rattle.mesh_grid.specs.declared.snap.search.FarPairs.{FarPairs}
use Rattle.mesh_grid.specs.Snap.Cells.{cell_at, IsBetween}

-- all cells are among 2m + 1 neighbours, so they fit on a grid from -m to m
abbrev pub FitsWithin : ℕ → GridStep → List Number → Type 0
FitsWithin m s xs = (least : ℤ) × All (λ x. IsBetween least (cell_at s x) (least +ℤ pos (2 * m))) xs

-- along all axes
pub record FitsAllWithin (m : ℕ) (s : GridStep) (c : Coordinates) : Type 0 where
  pub x : FitsWithin m s c.x.now
  pub y : FitsWithin m s c.y.now
  pub z : FitsWithin m s c.z.now

-- there are numbers, and each is below the limit
pub record AreNumbers (xs : List Number) : Type 0 where
  pub some : 0 < length xs
  pub below : All (λ x. is_below_limit (value_of x) ≡ true) xs

-- there are coordinates along each axis, each below 10 ^ 15 in size
pub record AreCoordinates (c : Coordinates) : Type 0 where
  pub x : AreNumbers c.x.now
  pub y : AreNumbers c.y.now
  pub z : AreNumbers c.z.now

-- a span with one cell more
pub record IsWidened (old : CellRange) (cell : ℤ) (new : CellRange) : Type 0 where
  pub holds : IsBetween new.least cell new.greatest
  pub holds_least : new.least ≤ℤ old.least
  pub holds_greatest : old.greatest ≤ℤ new.greatest
  pub least : (new.least ≡ old.least) ⊎ (new.least ≡ cell)
  pub greatest : (new.greatest ≡ old.greatest) ⊎ (new.greatest ≡ cell)

-- from the least to the greatest cell there are at most 2m + 1
pub record IsNarrowWithin (m : ℕ) (span : CellRange) : Type 0 where
  pub ordered : span.least ≤ℤ span.greatest
  pub narrow : (span.greatest -ℤ span.least) ≤ℤ pos (2 * m)

pub record AreNarrowWithin (m : ℕ) (spans : CellRanges) : Type 0 where
  pub x : IsNarrowWithin m spans.x
  pub y : IsNarrowWithin m spans.y
  pub z : IsNarrowWithin m spans.z

-- the least and the greatest cell, which fit on a grid
pub record IsSpanWithin (m : ℕ) (s : GridStep) (xs : List Number) (span : CellRange) : Type 0 where
  pub within : All (λ x. IsBetween span.least (cell_at s x) span.greatest) xs
  pub least_met : Any (λ x. cell_at s x ≡ span.least) xs
  pub greatest_met : Any (λ x. cell_at s x ≡ span.greatest) xs
  pub narrow : (span.greatest -ℤ span.least) ≤ℤ pos (2 * m)

-- the least and the greatest cell along each axis
pub record AreSpansWithin (m : ℕ) (s : GridStep) (c : Coordinates) (spans : CellRanges) : Type 0 where
  pub x : IsSpanWithin m s c.x.now spans.x
  pub y : IsSpanWithin m s c.y.now spans.y
  pub z : IsSpanWithin m s c.z.now spans.z

-- the first of these steps at which the coordinates fit on a grid from -m to m
pub record IsLeastWithin (m : ℕ) (steps : ℕ → GridStep) (c : Coordinates) (s : GridStep) : Type 0 where
  pub rank : ℕ
  pub step : s ≡ steps rank
  pub fits : FitsAllWithin m s c
  pub least : (lower : ℕ) → lower < rank → FitsAllWithin m (steps lower) c → ⊥

-- two indices of a list
pub record AreEnds (xs : List Number) (ends : FarPair) : Type 0 where
  pub low : ends.low < length xs
  pub high : ends.high < length xs

pub record AreAllEnds (c : Coordinates) (ends : FarPairs) : Type 0 where
  pub x : AreEnds c.x.now ends.x
  pub y : AreEnds c.y.now ends.y
  pub z : AreEnds c.z.now ends.z

-- ---- the same on the narrow grid
abbrev pub Fits : GridStep → List Number → Type 0
Fits s xs = FitsWithin narrow_limit s xs

abbrev pub FitsAll : GridStep → Coordinates → Type 0
FitsAll s c = FitsAllWithin narrow_limit s c

abbrev pub IsSpan : GridStep → List Number → CellRange → Type 0
IsSpan s xs span = IsSpanWithin narrow_limit s xs span

abbrev pub AreSpans : GridStep → Coordinates → CellRanges → Type 0
AreSpans s c spans = AreSpansWithin narrow_limit s c spans

abbrev pub IsLeast : (ℕ → GridStep) → Coordinates → GridStep → Type 0
IsLeast steps c s = IsLeastWithin narrow_limit steps c s
