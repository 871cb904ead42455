-- Ticks: the small lengths in which moves are counted
use Rattle.std.specs.Prelude.{ℕ, ◌-◌, ◌*◌, ◌^◌, ◌<◌, true}
use Rattle.mesh_number.specs.Number.Fractions.{Fraction}
use Rattle.mesh_number.specs.Number.Quotients.{quotient}
use Rattle.mesh_number.specs.Float.Binary32.{distance}
use Rattle.mesh_effect.specs.declared.rounding.tick.Tick.{Tick}

-- how many ticks lie between two numbers, rounded up
abbrev pub ticks_between : Tick → Fraction → Fraction → ℕ
ticks_between tick v w =
    quotient true (tick.denominator * distance v.numerator v.denominator w)
    (v.denominator * w.denominator * tick.numerator)

-- 2^(top - 211) of the user's unit, where top stands for a last bit of 2^(top - 149)
abbrev pub power_tick : ℕ → Tick
power_tick top = record { numerator = 2 ^ (top - 211); denominator = 2 ^ (211 - top) }

-- 2^-62 of the unit of the last decimal place
abbrev pub decimal_tick : ℕ → Tick
decimal_tick places = record { numerator = 1; denominator = 2 ^ 62 * 10 ^ places }

-- numerator and denominator are in range
pub record IsTick (tick : Tick) : Type 0 where
  pub numerator_positive : 0 < tick.numerator
  pub denominator_positive : 0 < tick.denominator
  pub numerator_small : tick.numerator < 2 ^ 44
  pub denominator_small : tick.denominator < 2 ^ 127
