-- Powers that are at most a trillion
use Rattle.std.proofs.Common.{◌≡◌, ◌≤◌, ◌<◌, ℕ, ◌^◌, true, false, nat_le, arith}
use Rattle.std.proofs.lemmas.Bool.Decides.{nat_tests}
use Rattle.std.proofs.Math.Nat.{pow-le-pow_right}

pub tens_fit : (p : ℕ) → p ≤ 12 → true ≡ nat_le (10 ^ p) (10 ^ 12)
tens_fit p h = let m : 10 ^ p ≤ 10 ^ 12 = pow-le-pow_right {n = 10} (omega arith) h in grind (arith, nat_tests)

pub tens_pass : (p : ℕ) → 12 < p → false ≡ nat_le (10 ^ p) (10 ^ 12)
tens_pass p h = let m : 10 ^ 13 ≤ 10 ^ p = pow-le-pow_right {n = 10} (omega arith) h in grind (arith, nat_tests)

pub twos_fit : (p : ℕ) → p < 40 → true ≡ nat_le (2 ^ p) (10 ^ 12)
twos_fit p h =
    let k : p ≤ 39 = omega arith in
    let m : 2 ^ p ≤ 2 ^ 39 = pow-le-pow_right {n = 2} (omega arith) k in grind (arith, nat_tests)

pub twos_pass : (p : ℕ) → 40 ≤ p → false ≡ nat_le (2 ^ p) (10 ^ 12)
twos_pass p h = let m : 2 ^ 40 ≤ 2 ^ p = pow-le-pow_right {n = 2} (omega arith) h in grind (arith, nat_tests)
