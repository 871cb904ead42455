-- How far a number is from its cell
use Rattle.std.specs.Prelude.{ℕ, ◌*◌, ◌/◌, ◌^◌, ◌<◌, ◌≤◌, min, max, true, ℤ, neg_ℤ, ◌-ℤ◌, ◌*ℤ◌, unsigned_abs}
use Rattle.mesh_number.specs.Number.Fractions.{Fraction, floor_of_multiple}
use Rattle.mesh_number.specs.Number.Quotients.{quotient}
use Rattle.mesh_grid.specs.declared.snap.steps.GridStep.{GridStep}
use Rattle.mesh_grid.specs.Snap.Cells.{scaled_number, scaled_step, cell_of}
use Rattle.mesh_grid.specs.Snap.Decimals.{negated}

-- the distance, times twice the product of both denominators
abbrev pub scaled_distance : GridStep → Fraction → ℕ
scaled_distance s v = unsigned_abs (scaled_number s v -ℤ scaled_step s v *ℤ cell_of s v)

-- ---- in ticks
-- half a step is numerator times fineness ticks, and half of the user's unit is denominator times fineness
abbrev pub fineness_of : GridStep → ℕ
fineness_of s = max (min (10 ^ 12 / s.denominator) (2 ^ 61 / s.numerator)) 1

-- this fineness isn't too great
pub record IsFineness (s : GridStep) (fineness : ℕ) : Type 0 where
  pub positive : 0 < fineness
  pub half_unit : s.denominator * fineness < 2 ^ 40
  pub half_step : s.numerator * fineness ≤ 2 ^ 61

-- how many ticks the number is from its cell, rounded up
abbrev pub ticks_of : GridStep → ℕ → Fraction → ℕ
ticks_of s fineness v = quotient true (fineness * scaled_distance s v) v.denominator

-- the least whole number that isn't below the multiple of v
abbrev pub ceiling_of_multiple : ℕ → Fraction → ℤ
ceiling_of_multiple factor v = neg_ℤ (floor_of_multiple factor (negated v))
