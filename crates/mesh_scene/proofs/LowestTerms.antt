-- A step divided by the greatest common divisor of its parts
use Rattle.std.proofs.Common.{◌≡◌, ℕ, zero, suc, ◌*◌, ◌/◌, ◌^◌, ◌<◌, ◌≤◌, sym, ap, subst, ◌∙◌, arith, mul-le-mul}
use Rattle.std.specs.Int.{IsGcd, ◌∣◌}
use Rattle.std.proofs.Math.Nat.{div-mul_cancel, mul_comm, mul-dvd-mul_right, dvd_of_mul-dvd-mul_left, one-dvd}
use Rattle.mesh_grid.specs.declared.snap.steps.GridStep.{GridStep}
use Rattle.mesh_grid.specs.Snap.Steps.{IsStep}
use Rattle.mesh_certificate.proofs.Divisors.{gcd_nonzero}
use Rattle.mesh_scene.specs.SceneFile.Fractions.{IsInLowestTerms}

pub divisor_positive : (s : GridStep) (g : ℕ) → IsStep s → IsGcd s.numerator s.denominator g → 0 < g
divisor_positive s g is gcd =
    let positive = is.numerator_positive in
    let nonzero = gcd_nonzero gcd (λ e. omega arith) in
    omega (arith, nonzero)

part_positive : (q g n : ℕ) → q * g ≡ n → 0 < n → 0 < q
part_positive zero g n e h = absurd (omega arith)
part_positive (suc q) g n e h = omega arith

part_small : (q g n most : ℕ) → q * g ≡ n → 0 < g → n < most → q < most
part_small q g n most e positive h =
    let more : q * 1 ≤ q * g = mul-le-mul (omega arith) positive in
    omega (arith, more)

crossed : (a b g n d : ℕ) → a * g ≡ n → b * g ≡ d → n * b ≡ a * d
crossed a b g n d e f = ap (λ (m : ℕ). m * b) (sym e) ∙ omega arith ∙ ap (λ (m : ℕ). a * m) f

-- what divides both quotients is 1
common_is_one : (a b g n d k : ℕ) → a * g ≡ n → b * g ≡ d → 0 < g → IsGcd n d g → k ∣ a → k ∣ b → k ∣ 1
common_is_one a b g n d k e f positive gcd p q =
    let up : k * g ∣ g =
    gcd.2 (k * g) (subst (λ (m : ℕ). k * g ∣ m) e (mul-dvd-mul_right k p g)) (subst (λ (m : ℕ). k * g ∣ m) f (mul-dvd-mul_right k q g)) in
    let turned : g * k ∣ g * 1 = subst (λ (m : ℕ). m ∣ g * 1) (mul_comm k g) (subst (λ (m : ℕ). k * g ∣ m) (omega arith) up) in
    dvd_of_mul-dvd-mul_left {k = g} k positive turned

pub divided_is_lowest : (s : GridStep) (g : ℕ) → IsStep s → IsGcd s.numerator s.denominator g
    → IsInLowestTerms s (record { numerator = s.numerator / g; denominator = s.denominator / g })
divided_is_lowest s g is gcd =
    let positive = divisor_positive s g is gcd in
    let numerator : s.numerator / g * g ≡ s.numerator = div-mul_cancel g gcd.0 in
    let denominator : s.denominator / g * g ≡ s.denominator = div-mul_cancel g gcd.1 in
    record {
      step = record {
        numerator_positive = part_positive _ g _ numerator is.numerator_positive;
        denominator_positive = part_positive _ g _ denominator is.denominator_positive;
        numerator_small = part_small _ g _ (2 ^ 40) numerator positive is.numerator_small;
        denominator_small = part_small _ g _ (2 ^ 40) denominator positive is.denominator_small;
      };
      same = crossed _ _ g _ _ numerator denominator;
      coprime = (one-dvd _, one-dvd _, λ k p q. common_is_one _ _ g _ _ k numerator denominator positive gcd p q);
    }
