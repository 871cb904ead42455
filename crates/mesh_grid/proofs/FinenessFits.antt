-- Ticks: there are few enough of them.
use Rattle.std.proofs.Common.{◌≡◌, ◌≤◌, ℕ, zero, suc, ◌*◌, ◌/◌, ◌^◌, max, min, sym, subst, arith}
use Rattle.std.proofs.Math.Nat.{div-mul-le_self, max-eq_left, max-eq_right, min-le_left, min-le_right, mul-le-mul_right}
use Rattle.mesh_grid.specs.declared.snap.steps.GridStep.{GridStep}
use Rattle.mesh_grid.specs.Snap.Steps.{IsStep}
use Rattle.mesh_grid.specs.Moves.Moves.{IsFineness, fineness_of}

-- what is at most a quotient gives at most the dividend
product_below : (m n d : ℕ) → m ≤ n / d → d * m ≤ n
product_below m n d h =
    let more : m * d ≤ n / d * d = mul-le-mul_right d h in
    omega (arith, more, div-mul-le_self n d)

at_least_one : (s : GridStep) (m : ℕ) → IsStep s → m ≤ 10 ^ 12 / s.denominator → m ≤ 2 ^ 61 / s.numerator → IsFineness s (max m 1)
at_least_one s zero is a b =
    let one : max 0 1 ≡ 1 = max-eq_right {n = 0} {m = 1} (omega arith) in
    subst (IsFineness s) (sym one) (record {
      positive = omega arith;
      half_unit = omega (arith, is.denominator_small);
      half_step = omega (arith, is.numerator_small);
    })
at_least_one s (suc m) is a b =
    let same : max (suc m) 1 ≡ suc m = max-eq_left {n = suc m} {m = 1} (omega arith) in
    subst (IsFineness s) (sym same) (record {
      positive = omega arith;
      half_unit = omega (arith, product_below (suc m) (10 ^ 12) s.denominator a);
      half_step = product_below (suc m) (2 ^ 61) s.numerator b;
    })

pub fineness_fits : (s : GridStep) → IsStep s → IsFineness s (fineness_of s)
fineness_fits s is =
    let by_number = 10 ^ 12 / s.denominator in
    let by_step = 2 ^ 61 / s.numerator in
    at_least_one s (min by_number by_step) is (min-le_left by_number by_step) (min-le_right by_number by_step)
