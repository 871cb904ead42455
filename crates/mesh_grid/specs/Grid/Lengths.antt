-- How long surfaces are
use Rattle.std.specs.Prelude.{◌≡◌, ◌⊎◌, ℕ, nat_lt, ℤ, ◌-ℤ◌, ◌≤ℤ◌, unsigned_abs, if◌then◌else◌, List, All, Any}
use Rattle.mesh_number.specs.declared.number.values.Number.{Number}
use Rattle.mesh_grid.specs.declared.snap.steps.GridStep.{GridStep}
use Rattle.mesh_grid.specs.declared.snap.spans.Coordinates.{Coordinates}
use Rattle.mesh_grid.specs.Snap.Cells.{cell_at, IsBetween}
use Rattle.mesh_grid.specs.declared.grid.lengths.Bounds.{Bounds}

-- lengths are counted in trillionths of the unit
abbrev pub trillion : ℕ
trillion = 1000000000000

-- so the cell of a number is the nearest whole number of them
abbrev pub trillionth : GridStep
trillionth = record { numerator = 1; denominator = trillion }

-- the least and the greatest cell of numbers
pub record AreBounds (s : GridStep) (xs : List Number) (b : Bounds) : Type 0 where
  pub within : All (λ x. IsBetween b.least (cell_at s x) b.greatest) xs
  pub least_met : Any (λ x. cell_at s x ≡ b.least) xs
  pub greatest_met : Any (λ x. cell_at s x ≡ b.greatest) xs

-- bounds with one cell more
pub record AreWidened (old : Bounds) (cell : ℤ) (new : Bounds) : Type 0 where
  pub holds : IsBetween new.least cell new.greatest
  pub holds_least : new.least ≤ℤ old.least
  pub holds_greatest : old.greatest ≤ℤ new.greatest
  pub least : (new.least ≡ old.least) ⊎ (new.least ≡ cell)
  pub greatest : (new.greatest ≡ old.greatest) ⊎ (new.greatest ≡ cell)

-- the distance of the least and the greatest number
pub record IsLengthAlong (xs : List Number) (length : ℕ) : Type 0 where
  pub bounds : Bounds
  pub are_bounds : AreBounds trillionth xs bounds
  pub distance : length ≡ unsigned_abs (bounds.greatest -ℤ bounds.least)

abbrev pub greater_of : ℕ → ℕ → ℕ
greater_of m n = if nat_lt m n then n else m

-- the greatest of the lengths along the axes
pub record IsLength (c : Coordinates) (length : ℕ) : Type 0 where
  pub x : ℕ
  pub y : ℕ
  pub z : ℕ
  pub along_x : IsLengthAlong c.x.now x
  pub along_y : IsLengthAlong c.y.now y
  pub along_z : IsLengthAlong c.z.now z
  pub greatest : length ≡ greater_of (greater_of x y) z
