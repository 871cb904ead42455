-- Where a grid lies
use Rattle.std.specs.Prelude.{◌≡◌, ℕ, Bool, ◌&&◌, if◌then◌else◌, int_le, ℤ, pos, neg_ℤ, ◌+ℤ◌, ◌-ℤ◌, List, All}
use Rattle.std.specs.Int.{int_div_euclid}
use Rattle.mesh_number.specs.declared.number.values.Number.{Number}
use Rattle.ember_model.specs.Limits.{narrow_limit}
use Rattle.mesh_grid.specs.declared.snap.steps.GridStep.{GridStep}
use Rattle.mesh_grid.specs.declared.snap.spans.Coordinates.{Coordinates}
use Rattle.mesh_grid.specs.declared.snap.spans.CellRange.{CellRange}
use Rattle.mesh_grid.specs.declared.snap.spans.CellRanges.{CellRanges}
use Rattle.mesh_grid.specs.declared.snap.offsets.Offset.{Offset}
use Rattle.mesh_grid.specs.Snap.Cells.{cell_at, IsBetween}
use Rattle.mesh_grid.specs.Snap.Spans.{AreSpansWithin}

-- all cells are at most m in size
abbrev pub is_central_within : ℕ → CellRange → Bool
is_central_within m span = int_le (neg_ℤ (pos m)) span.least && int_le span.greatest (pos m)

abbrev pub middle_of : CellRange → ℤ
middle_of span = int_div_euclid (span.least +ℤ span.greatest) (pos 2)

-- no offset if none is needed
abbrev pub offset_of_within : ℕ → CellRanges → Offset
offset_of_within m spans =
    if is_central_within m spans.x && is_central_within m spans.y && is_central_within m spans.z
    then record { x = pos 0; y = pos 0; z = pos 0 }
    else record { x = middle_of spans.x; y = middle_of spans.y; z = middle_of spans.z }

-- the offset that the least and the greatest cells ask for
pub record IsOffsetWithin (m : ℕ) (s : GridStep) (c : Coordinates) (o : Offset) : Type 0 where
  pub spans : CellRanges
  pub least_and_greatest : AreSpansWithin m s c spans
  pub offset : o ≡ offset_of_within m spans

-- the cells less the offset are at most m in size
abbrev pub LandsAlongWithin : ℕ → GridStep → List Number → ℤ → Type 0
LandsAlongWithin m s xs o = All (λ x. IsBetween (neg_ℤ (pos m)) (cell_at s x -ℤ o) (pos m)) xs

-- all coordinates land on the grid from -m to m with this step and offset
pub record LandsOnGridWithin (m : ℕ) (s : GridStep) (c : Coordinates) (o : Offset) : Type 0 where
  pub x : LandsAlongWithin m s c.x.now o.x
  pub y : LandsAlongWithin m s c.y.now o.y
  pub z : LandsAlongWithin m s c.z.now o.z

-- ---- the same on the narrow grid
abbrev pub offset_of : CellRanges → Offset
offset_of spans = offset_of_within narrow_limit spans

abbrev pub IsOffset : GridStep → Coordinates → Offset → Type 0
IsOffset s c o = IsOffsetWithin narrow_limit s c o

abbrev pub LandsAlong : GridStep → List Number → ℤ → Type 0
LandsAlong s xs o = LandsAlongWithin narrow_limit s xs o

abbrev pub LandsOnGrid : GridStep → Coordinates → Offset → Type 0
LandsOnGrid s c o = LandsOnGridWithin narrow_limit s c o
