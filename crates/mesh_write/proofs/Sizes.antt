-- The size of a decimal that is read
use Rattle.std.proofs.Common.{◌≡◌, ℕ, ◌+◌, ◌*◌, ◌/◌, ◌%◌, ◌^◌, ◌<◌, ◌≤◌, List, ◌++◌, length, sym, ap, ◌∙◌, arith, decimal, pow-add}
use Rattle.std.proofs.Math.Nat.{mul-le-mul_left, div-lt_iff_lt-mul}
use Rattle.ember_dec.specs.Digits.{number_from}
use Rattle.mesh_number.proofs.DigitNumbers.{number_from-behind, number_from-below, pow_ten_pos}
use Rattle.mesh_write.proofs.Digits.{decimal_number}
use Rattle.mesh_write.proofs.FractionDigits.{ArePlaces}

-- a whole part below 10^15
pub whole_small : (size places : ℕ) → size < 10 ^ 15 * 10 ^ places → size / 10 ^ places < 10 ^ 15
whole_small size places small = (div-lt_iff_lt-mul (pow_ten_pos places)).1 small

-- the number that all digits spell
pub all_digits_spell : (w : ℕ) (ds : List ℕ) → w < 2 ^ 64 → number_from 0 (decimal w ++ ds) ≡ w * 10 ^ length ds + number_from 0 ds
all_digits_spell w ds small = number_from-behind (decimal w) ds ∙ ap (λ (n : ℕ). n * 10 ^ length ds + number_from 0 ds) (decimal_number w small)

same_quotients : (w l n z p r size : ℕ) → p ≡ l * z → n * z ≡ r → p * w + r ≡ size → (w * l + n) * 1 * p ≡ size * l
same_quotients w l n z p r size e f g =
    ap (λ (i : ℕ). (w * l + n) * 1 * i) e ∙ regroup w l n z ∙ ap (λ (i : ℕ). (l * z * w + i) * l) f
    ∙ ap (λ (i : ℕ). (i * w + r) * l) (sym e) ∙ ap (λ (i : ℕ). i * l) g
  where
    regroup : (w l n z : ℕ) → (w * l + n) * 1 * (l * z) ≡ (l * z * w + n * z) * l
    regroup w l n z = omega arith

-- the same value as so many units
pub same_size : (size places : ℕ) (ds : List ℕ) → size / 10 ^ places < 2 ^ 64 → ArePlaces places (size % 10 ^ places) ds
    → number_from 0 (decimal (size / 10 ^ places) ++ ds) * 1 * 10 ^ places ≡ size * 10 ^ (length ds + 0)
same_size size places ds small h =
    let positive = pow_ten_pos places in
    let w = size / 10 ^ places in
    let whole : 10 ^ places * w + size % 10 ^ places ≡ size = omega (arith, positive) in
    let power : 10 ^ places ≡ 10 ^ length ds * 10 ^ h.zeros = ap (λ (i : ℕ). 10 ^ i) (sym h.count) ∙ pow-add 10 (length ds) h.zeros in
    let none : length ds + 0 ≡ length ds = omega arith in
    rw (all_digits_spell w ds small, none) (same_quotients w (10 ^ length ds) (number_from 0 ds) (10 ^ h.zeros)
    (10 ^ places) (size % 10 ^ places) size power h.spells whole)

-- a size below 10^15
pub size_below : (w : ℕ) (ds : List ℕ) (places part : ℕ) → w < 10 ^ 15 → ArePlaces places part ds →
    number_from 0 (decimal w ++ ds) * 1 < 10 ^ 15 * 10 ^ (length ds + 0)
size_below w ds places part small h =
    let none : length ds + 0 ≡ length ds = omega arith in
    let more : 10 ^ length ds * (w + 1) ≤ 10 ^ length ds * 10 ^ 15 = mul-le-mul_left (10 ^ length ds) (omega arith) in
    let below = number_from-below ds h.digits in
    rw (all_digits_spell w ds (omega (arith, small)), none) (omega (arith, more, below))
