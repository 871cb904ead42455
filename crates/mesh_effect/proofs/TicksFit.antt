-- Ticks are in range.
use Rattle.std.proofs.Common.{◌≤◌, ℕ, ◌-◌, ◌^◌, arith}
use Rattle.std.proofs.lemmas.Nat.{pow_pos}
use Rattle.std.proofs.Math.Nat.{one-le-pow}
use Rattle.std.proofs.Math.Pow.{pow_mono}
use Rattle.mesh_effect.specs.Rounding.Ticks.{power_tick, decimal_tick, IsTick}
use Rattle.mesh_effect.proofs.Places.{tens_grow}

pub power_tick_fits : (top : ℕ) → 85 ≤ top → top ≤ 254 → IsTick (power_tick top)
power_tick_fits top least most =
    let over : 2 ^ (top - 211) ≤ 2 ^ 43 = pow_mono {j = 43} (omega arith) in
    let under : 2 ^ (211 - top) ≤ 2 ^ 126 = pow_mono {j = 126} (omega arith) in
    record {
      numerator_positive = pow_pos (top - 211);
      denominator_positive = pow_pos (211 - top);
      numerator_small = omega (arith, over);
      denominator_small = omega (arith, under);
    }

pub decimal_tick_fits : (places : ℕ) → places ≤ 17 → IsTick (decimal_tick places)
decimal_tick_fits places few =
    let least : 1 ≤ 10 ^ places = one-le-pow places 10 (omega arith) in
    let most : 10 ^ places ≤ 10 ^ 17 = tens_grow places 17 few in
    record {
      numerator_positive = omega arith;
      denominator_positive = omega (arith, least);
      numerator_small = omega arith;
      denominator_small = omega (arith, most);
    }
