-- The cells of numbers: cell c holds what is nearest to c steps
use Rattle.std.specs.Prelude.{◌*◌, ℤ, pos, ◌+ℤ◌, ◌-ℤ◌, ◌*ℤ◌, ◌<ℤ◌, ◌≤ℤ◌}
use Rattle.std.specs.Int.{int_div_euclid}
use Rattle.mesh_number.specs.declared.number.values.Number.{Number}
use Rattle.mesh_number.specs.Number.Fractions.{Fraction}
use Rattle.mesh_number.specs.Number.Values.{value_of}
use Rattle.mesh_grid.specs.declared.snap.steps.GridStep.{GridStep}

-- low ≤ z ≤ high
pub record IsBetween (low z high : ℤ) : Type 0 where
  pub low_enough : low ≤ℤ z
  pub high_enough : z ≤ℤ high

-- a number, a step and a multiple of the step, all times twice the product of both denominators
abbrev pub scaled_number : GridStep → Fraction → ℤ
scaled_number s v = pos (2 * s.denominator) *ℤ v.numerator

abbrev pub scaled_step : GridStep → Fraction → ℤ
scaled_step s v = pos (v.denominator * (2 * s.numerator))

-- and half of a step
abbrev pub scaled_half : GridStep → Fraction → ℤ
scaled_half s v = pos (v.denominator * s.numerator)

-- the number over the step and a half, rounded down
abbrev pub cell_of : GridStep → Fraction → ℤ
cell_of s v = int_div_euclid (scaled_number s v +ℤ scaled_half s v) (scaled_step s v)

-- the cell of a number
unfoldable pub cell_at : GridStep → Number → ℤ
cell_at s x = cell_of s (value_of x)

-- c steps are at most half a step above the number, and less than half a step below it
pub record IsNearest (s : GridStep) (v : Fraction) (c : ℤ) : Type 0 where
  pub above : (scaled_step s v *ℤ c -ℤ scaled_half s v) ≤ℤ scaled_number s v
  pub below : scaled_number s v <ℤ (scaled_step s v *ℤ c +ℤ scaled_half s v)
