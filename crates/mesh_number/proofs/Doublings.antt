-- Multiples of whole numbers that are multiplied or divided by a power of two.
use Rattle.std.proofs.Common.{◌≡◌, ◌≤◌, ◌<◌, ℕ, zero, suc, Bool, true, false, ltb, cond, Some, None, ◌+◌, ◌-◌, ◌*◌, ◌/◌}
use Rattle.std.proofs.Common.{◌%◌, ◌^◌, min, refl, ◌∙◌, sym, ap, arith, pow-add}
use Rattle.std.proofs.lemmas.Bool.Decides.{nat_tests}
use Rattle.std.proofs.lemmas.Nat.{pow_pos, one_shl, shl_whole}
use Rattle.std.proofs.Math.Nat.{mul-le-mul_left, mul-lt-mul_of_pos_left, div-le_self, div-lt_iff_lt-mul, pow-le-pow_right}
use Rattle.mesh_number.specs.Number.Quotients.{quotient, size_of_multiple}
use Rattle.mesh_number.proofs.Rounding.{by_lt, quotient_exact, quotient_cancel, quotient_far}

-- a common factor of a fraction doesn't matter
size_cancel : (up : Bool) (factor x k c : ℕ) → 0 < k → 0 < c → size_of_multiple up factor (x * c) (k * c) ≡ size_of_multiple up factor x k
size_cancel up factor x k c p q =
    let product : factor * (x * c) ≡ (factor * x) * c = omega arith in
    let value : quotient up (factor * (x * c)) (k * c) ≡ quotient up (factor * x) k =
    ap (λ (n : ℕ). quotient up n (k * c)) product ∙ quotient_cancel up (factor * x) k c p q in
    let test : ltb (x * c) (10 ^ 15 * (k * c)) ≡ ltb x (10 ^ 15 * k) =
    by_lt x (10 ^ 15 * k)
    (λ h. let m : c * x < c * (10 ^ 15 * k) = mul-lt-mul_of_pos_left h q in let far : x * c < 10 ^ 15 * (k * c) = omega (arith, m) in grind (arith, nat_tests))
    (λ h. let m : c * (10 ^ 15 * k) ≤ c * x = mul-le-mul_left c h in let far : 10 ^ 15 * (k * c) ≤ x * c = omega (arith, m) in grind (arith, nat_tests)) in
    rw (test, value) refl

-- more doublings than 50 change nothing: a number above 0 has reached the limit
doublings_enough : (s places : ℕ) → (ltb (s * 2 ^ min places 50) (10 ^ 15) ≡ ltb (s * 2 ^ places) (10 ^ 15)) ×
    (s * 2 ^ min places 50 < 10 ^ 15 → s * 2 ^ min places 50 ≡ s * 2 ^ places)
doublings_enough zero places = let none : 0 * 2 ^ min places 50 ≡ 0 * 2 ^ places = omega arith in (ap (λ (n : ℕ). ltb n (10 ^ 15)) none, λ h. none)
doublings_enough (suc s) places =
    by_lt 50 places
    (λ h.
    let least : min places 50 ≡ 50 = omega arith in
    let power : 2 ^ 50 ≤ 2 ^ places = pow-le-pow_right {n = 2} (omega arith) {i = 50} {j = places} (omega arith) in
    let high : 10 ^ 15 ≤ suc s * 2 ^ places = omega (arith, power, mul-le-mul_left s power) in
    let low : 10 ^ 15 ≤ suc s * 2 ^ 50 = omega arith in
    rw least (grind (arith, nat_tests), λ less. absurd (omega arith)))
    (λ h. let least : min places 50 ≡ places = omega arith in rw least (refl, λ less. refl))

-- a whole number is its own quotient
multiple_of_whole : (up : Bool) (factor x : ℕ) → size_of_multiple up factor x 1 ≡ cond (ltb x (10 ^ 15)) (Some (x * factor)) None
multiple_of_whole up factor x =
    let value : quotient up (factor * x) 1 ≡ x * factor = ap (λ (n : ℕ). quotient up n 1) (omega arith) ∙ quotient_exact up (x * factor) 1 (omega arith) in
    rw value refl

-- the limit as a quotient sees it
limit_of_quotient : (s d : ℕ) → 0 < d → ltb (s / d) (10 ^ 15) ≡ ltb s (10 ^ 15 * d)
limit_of_quotient s d p =
    let there = (div-lt_iff_lt-mul {k = d} {x = s} {y = 10 ^ 15} p).0 in
    let back = (div-lt_iff_lt-mul {k = d} {x = s} {y = 10 ^ 15} p).1 in
    by_lt s (10 ^ 15 * d)
    (λ h. let less : s / d < 10 ^ 15 = back h in grind (arith, nat_tests))
    (λ h. by_lt (s / d) (10 ^ 15) (λ less. absurd (omega (arith, there less))) (λ k. grind (arith, nat_tests)))

-- more halvings than 105 change nothing for a number below 2^105
halvings_enough : (up : Bool) (x places : ℕ) → x < 2 ^ 105 → quotient up x (2 ^ min places 105) ≡ quotient up x (2 ^ places)
halvings_enough up x places h =
    by_lt 105 places
    (λ more.
    let least : min places 105 ≡ 105 = omega arith in
    let power : 2 ^ 105 ≤ 2 ^ places = pow-le-pow_right {n = 2} (omega arith) {i = 105} {j = places} (omega arith) in
    rw least (quotient_far up x (2 ^ 105) (2 ^ places) h (omega arith)))
    (λ few. let least : min places 105 ≡ places = omega arith in rw least refl)

-- ---- what the code computes
-- the power of two that a shift of at most 105 bits gives
pub power_by_shift : (places p : ℕ) → p ≡ min places 105 → ((1 * 2 ^ p) % 2 ^ 128 ≡ 2 ^ p) × (2 ^ p ≤ 2 ^ 105)
power_by_shift places p e =
    let below : p < 128 = omega arith in
    let within : p ≤ 105 = omega arith in
    (one_shl p 128 below, pow-le-pow_right {n = 2} (omega arith) {i = p} {j = 105} within)

-- the quotient by a power of two, rounded up, as the code computes it
pub shifted_up : (x places p : ℕ) → x < 2 ^ 105 → p ≡ min places 105 → (x + ((1 * 2 ^ p) % 2 ^ 128 - 1)) / 2 ^ p ≡ quotient true x (2 ^ places)
shifted_up x places p h e =
    ap (λ (n : ℕ). (x + (n - 1)) / 2 ^ p) (power_by_shift places p e).0 ∙ ap (λ (n : ℕ). quotient true x (2 ^ n)) e ∙ halvings_enough true x places h

-- the quotient by a power of two, rounded down, as the code computes it
pub shifted_down : (x places p : ℕ) → x < 2 ^ 105 → p ≡ min places 105 → x / 2 ^ p ≡ quotient false x (2 ^ places)
shifted_down x places p h e = ap (λ (n : ℕ). quotient false x (2 ^ n)) e ∙ halvings_enough false x places h

-- the multiple of a whole number times a power of two, if the number is below 10^15
pub raised_below : (s places factor : ℕ) → s < 2 ^ 64 → (s * 2 ^ min places 50) % 2 ^ 128 < 10 ^ 15 → (up : Bool) →
    Some ((s * 2 ^ min places 50) % 2 ^ 128 * factor) ≡ size_of_multiple up factor (s * 2 ^ places) 1
raised_below s places factor h less up =
    let m = min places 50 in
    let enough = doublings_enough s places in
    let whole : (s * 2 ^ m) % 2 ^ 128 ≡ s * 2 ^ m = shl_whole s 64 m 128 h (omega arith) in
    let small : s * 2 ^ m < 10 ^ 15 = omega arith in
    let same : s * 2 ^ m ≡ s * 2 ^ places = enough.1 small in
    let test : ltb (s * 2 ^ m) (10 ^ 15) ≡ true = grind (arith, nat_tests) in
    let passes : ltb (s * 2 ^ places) (10 ^ 15) ≡ true = sym enough.0 ∙ test in
    let value : (s * 2 ^ m) % 2 ^ 128 * factor ≡ s * 2 ^ places * factor = ap (λ (n : ℕ). n * factor) (whole ∙ same) in
    ap (λ (n : ℕ). Some n) value ∙ sym (multiple_of_whole up factor (s * 2 ^ places) ∙ ap (λ (b : Bool). cond b (Some (s * 2 ^ places * factor)) None) passes)

-- the number is refused if it reaches 10^15
pub raised_reached : (s places factor : ℕ) → s < 2 ^ 64 → 10 ^ 15 ≤ (s * 2 ^ min places 50) % 2 ^ 128 → (up : Bool) →
    None ≡ size_of_multiple up factor (s * 2 ^ places) 1
raised_reached s places factor h more up =
    let m = min places 50 in
    let enough = doublings_enough s places in
    let whole : (s * 2 ^ m) % 2 ^ 128 ≡ s * 2 ^ m = shl_whole s 64 m 128 h (omega arith) in
    let large : 10 ^ 15 ≤ s * 2 ^ m = omega arith in
    let test : ltb (s * 2 ^ m) (10 ^ 15) ≡ false = grind (arith, nat_tests) in
    let fails : ltb (s * 2 ^ places) (10 ^ 15) ≡ false = sym enough.0 ∙ test in
    sym (multiple_of_whole up factor (s * 2 ^ places) ∙ ap (λ (b : Bool). cond b (Some (s * 2 ^ places * factor)) None) fails)

-- the multiple of a whole number over a power of two, if the number is below 10^15
pub lowered_below : (up : Bool) (s places factor : ℕ) → s / 2 ^ places < 10 ^ 15 →
    Some (quotient up (s * factor) (2 ^ places)) ≡ size_of_multiple up factor s (2 ^ places)
lowered_below up s places factor less =
    let test : ltb (s / 2 ^ places) (10 ^ 15) ≡ true = grind (arith, nat_tests) in
    let passes : ltb s (10 ^ 15 * 2 ^ places) ≡ true = sym (limit_of_quotient s (2 ^ places) (pow_pos places)) ∙ test in
    let turned : s * factor ≡ factor * s = omega arith in
    rw passes (ap (λ (n : ℕ). Some (quotient up n (2 ^ places))) turned)

-- a number below 2^24 is below the limit
pub short_lowered_below : (up : Bool) (s places factor : ℕ) → s < 2 ^ 24 →
    Some (quotient up (s * factor) (2 ^ places)) ≡ size_of_multiple up factor s (2 ^ places)
short_lowered_below up s places factor h = lowered_below up s places factor (omega (arith, h, div-le_self s (2 ^ places)))

-- a power of two above and one below: only their difference counts
pub scaled_down : (up : Bool) (factor s power scale : ℕ) → power < scale →
    size_of_multiple up factor s (2 ^ (scale - power)) ≡ size_of_multiple up factor (s * 2 ^ power) (2 ^ scale)
scaled_down up factor s power scale h =
    let sum : (scale - power) + power ≡ scale = omega arith in
    let under : 2 ^ (scale - power) * 2 ^ power ≡ 2 ^ scale = sym (pow-add 2 (scale - power) power) ∙ ap (λ (n : ℕ). 2 ^ n) sum in
    sym (size_cancel up factor s (2 ^ (scale - power)) (2 ^ power) (pow_pos (scale - power)) (pow_pos power))
    ∙ ap (λ (n : ℕ). size_of_multiple up factor (s * 2 ^ power) n) under

-- a number times one power of two over another, not larger, is a whole number times a power of two
pub scaled_up : (up : Bool) (factor s power scale : ℕ) → scale ≤ power →
    size_of_multiple up factor (s * 2 ^ (power - scale)) 1 ≡ size_of_multiple up factor (s * 2 ^ power) (2 ^ scale)
scaled_up up factor s power scale h =
    let sum : (power - scale) + scale ≡ power = omega arith in
    let product : 2 ^ (power - scale) * 2 ^ scale ≡ 2 ^ power = sym (pow-add 2 (power - scale) scale) ∙ ap (λ (n : ℕ). 2 ^ n) sum in
    let group : s * 2 ^ (power - scale) * 2 ^ scale ≡ s * (2 ^ (power - scale) * 2 ^ scale) = omega arith in
    let over : s * 2 ^ (power - scale) * 2 ^ scale ≡ s * 2 ^ power = group ∙ ap (λ (n : ℕ). s * n) product in
    let under : 1 * 2 ^ scale ≡ 2 ^ scale = omega arith in
    sym (size_cancel up factor (s * 2 ^ (power - scale)) 1 (2 ^ scale) (omega arith) (pow_pos scale))
    ∙ ap (λ (n : ℕ). size_of_multiple up factor n (1 * 2 ^ scale)) over ∙ ap (λ (n : ℕ). size_of_multiple up factor (s * 2 ^ power) n) under
