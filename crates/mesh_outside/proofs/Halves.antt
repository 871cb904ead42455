-- The weights of both halves of a box
use Rattle.std.proofs.Common.{◌≡◌, ◌<◌, ◌≤◌, ℕ, zero, suc, ◌+◌, ◌-◌, ◌*◌, ◌/◌, ◌^◌, refl, sym, ap, ◌∙◌, arith}
use Rattle.std.specs.Int.Count.{count_leading_zeros, leading_unique}
use Rattle.std.proofs.lemmas.Nat.{leading_top, pow-add, pow_pos}
use Rattle.std.proofs.Math.Nat.{lt_of_not-le, mul-div_cancel, pow-suc}
use Rattle.std.proofs.Math.Pow.{pow_mono}
use Rattle.mesh_outside.specs.Progress.Weights.{depth_of, weight_of}

half_of_even : (p : ℕ) → 2 * p / 2 ≡ p
half_of_even p = grind arith

half_of_odd : (p : ℕ) → (2 * p + 1) / 2 ≡ p
half_of_odd p = grind arith

-- ---- both halves weigh the same
-- without its lowest digit a number has as many leading zeros among one digit fewer
digit_dropped : (k m : ℕ) → 0 < m → count_leading_zeros (suc k) m ≡ count_leading_zeros k (m / 2)
unfolding count_leading_zeros
digit_dropped k zero h = absurd (omega arith)
digit_dropped k (suc n) h = refl

pub halves_weigh_the_same : (p : ℕ) → 0 < p → weight_of (2 * p) ≡ weight_of (2 * p + 1)
halves_weigh_the_same p h =
    ap (λ (z : ℕ). 2 ^ 16 / 2 ^ (63 - z))
    (digit_dropped 63 (2 * p) (omega arith) ∙ ap (count_leading_zeros 63) (half_of_even p ∙ sym (half_of_odd p))
    ∙ sym (digit_dropped 63 (2 * p + 1) (omega arith)))

-- ---- and half as much as their box
depth_between : (j p : ℕ) → j < 64 → 2 ^ j ≤ p → p < 2 ^ suc j → depth_of p ≡ j
depth_between j p small low high =
    let long : 2 ^ suc j ≤ 2 * p + 1 = omega (arith, pow-suc 2 j) in
    let zeros : 63 - j ≡ count_leading_zeros 64 p = leading_unique 64 p (63 - j) (suc j) (omega arith) high long in
    ap (λ (z : ℕ). 63 - z) (sym zeros) ∙ (omega arith)

power_over : (j k : ℕ) → j + k ≡ 16 → 2 ^ 16 / 2 ^ j ≡ 2 ^ k
power_over j k e =
    ap (λ (n : ℕ). 2 ^ n / 2 ^ j) (sym e ∙ (omega arith)) ∙ ap (λ (n : ℕ). n / 2 ^ j) (pow-add 2 k j) ∙ mul-div_cancel (2 ^ k) (pow_pos j)

weight_between : (j k p : ℕ) → j + k ≡ 16 → 2 ^ j ≤ p → p < 2 ^ suc j → weight_of p ≡ 2 ^ k
weight_between j k p e low high = ap (λ (d : ℕ). 2 ^ 16 / 2 ^ d) (depth_between j p (omega arith) low high) ∙ power_over j k e

-- a path below 2^16 has at most 16 digits
few_digits : (j p : ℕ) → 2 ^ j ≤ p → p < 2 ^ 16 → j < 16
few_digits j p low small = lt_of_not-le (λ long. omega (arith, pow_mono long, low, small))

weighs_half : (j k p : ℕ) → j + suc k ≡ 16 → 2 ^ j ≤ p → p < 2 ^ suc j → weight_of (2 * p) * 2 ≡ weight_of p
weighs_half j k p e low high =
    rw (
      weight_between (suc j) k (2 * p) (omega (arith, e)) (omega (arith, pow-suc 2 j))
          (omega (arith, pow-suc 2 (suc j))),
      weight_between j (suc k) p e low high,
    )
    (sym (pow-suc 2 k))

pub left_weighs_half : (p : ℕ) → 0 < p → p < 2 ^ 16 → weight_of (2 * p) * 2 ≡ weight_of p
left_weighs_half p h small =
    let top = leading_top 64 p h (omega arith) in
    let few = few_digits top.0 p top.2 small in
    weighs_half top.0 (15 - top.0) p (omega (arith, few)) top.2 top.3

pub right_weighs_half : (p : ℕ) → 0 < p → p < 2 ^ 16 → weight_of (2 * p + 1) * 2 ≡ weight_of p
right_weighs_half p h small = ap (λ (w : ℕ). w * 2) (sym (halves_weigh_the_same p h)) ∙ left_weighs_half p h small
