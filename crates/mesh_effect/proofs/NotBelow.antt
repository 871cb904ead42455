-- Ticks and moves aren't below the true ones.
use Rattle.std.proofs.Common.{◌≡◌, ◌≤◌, ◌<◌, ℕ, ◌*◌, ◌^◌, mul-le-mul, mul-pos, arith}
use Rattle.mesh_grid.specs.Moves.Shown.{root_above}
use Rattle.mesh_grid.proofs.Lengths.{root_is}
use Rattle.mesh_number.specs.Number.Fractions.{Fraction}
use Rattle.mesh_number.specs.Float.Binary32.{distance}
use Rattle.mesh_effect.specs.declared.rounding.tick.Tick.{Tick}
use Rattle.mesh_effect.specs.Rounding.Ticks.{ticks_between}
use Rattle.mesh_effect.specs.Rounding.Shown.{move_from}
use Rattle.mesh_effect.proofs.Above.{above_is}

pub ticks_not_below : (tick : Tick) (v w : Fraction) → 0 < v.denominator → 0 < w.denominator → 0 < tick.numerator →
    tick.denominator * distance v.numerator v.denominator w ≤ v.denominator * w.denominator * tick.numerator
    * ticks_between tick v w
ticks_not_below tick v w p q r =
    (above_is (tick.denominator * distance v.numerator v.denominator w) (v.denominator * w.denominator * tick.numerator) (mul-pos (mul-pos p q) r)).enough

pub move_not_below : (tick : Tick) (square : ℕ) → 0 < tick.denominator →
    square * (tick.numerator * 10 ^ (move_from tick square).places
    * (tick.numerator * 10 ^ (move_from tick square).places)) ≤ tick.denominator * (move_from tick square).size
    * (tick.denominator * (move_from tick square).size)
move_not_below tick square p =
    let size = (move_from tick square).size in
    let root = root_above square in
    let power = 10 ^ (move_from tick square).places in
    let above : root * tick.numerator * power ≤ tick.denominator * size = (above_is (root * tick.numerator * power) tick.denominator p).enough in
    let squares : root * tick.numerator * power * (root * tick.numerator * power) ≤ tick.denominator * size
    * (tick.denominator * size) = mul-le-mul above above in
    let unit = tick.numerator * power in
    let scaled : square * (unit * unit) ≤ root * root * (unit * unit) = mul-le-mul (root_is square).enough (omega arith) in
    let same : root * root * (unit * unit) ≡ root * tick.numerator * power * (root * tick.numerator * power) = omega arith in
    omega (arith, squares, scaled, same)
