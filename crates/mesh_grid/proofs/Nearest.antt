-- The cell of a number is nearest to it.
use Rattle.std.proofs.Common.{◌≡◌, ◌<◌, ◌+◌, ◌*◌, arith, ◌+ℤ◌, mul-pos}
use borrow.Author.Differences.{ints}
use Rattle.ember_algebra.proofs.Laws.{linear}
use Rattle.mesh_number.specs.Number.Fractions.{Fraction}
use Rattle.mesh_grid.specs.declared.snap.steps.GridStep.{GridStep}
use Rattle.mesh_grid.specs.Snap.Cells.{scaled_number, scaled_step, scaled_half, cell_of, IsNearest}
use Rattle.mesh_grid.proofs.Floors.{floor_low, floor_high}

-- the cell of a number is a nearest one
pub cell_nearest : (s : GridStep) (v : Fraction) → 0 < v.denominator → 0 < s.numerator → IsNearest s v (cell_of s v)
cell_nearest s v p q =
    let under : 0 < v.denominator * (2 * s.numerator) = mul-pos p (omega arith) in
    let low = floor_low (scaled_number s v +ℤ scaled_half s v) (v.denominator * (2 * s.numerator)) under in
    let high = floor_high (scaled_number s v +ℤ scaled_half s v) (v.denominator * (2 * s.numerator)) under in
    let halves : v.denominator * (2 * s.numerator) ≡ v.denominator * s.numerator + v.denominator * s.numerator = omega arith in
    let whole : scaled_step s v ≡ scaled_half s v +ℤ scaled_half s v = omega (arith, ints, halves) in
    record { above = omega (arith, linear, low); below = omega (arith, linear, high, whole) }
