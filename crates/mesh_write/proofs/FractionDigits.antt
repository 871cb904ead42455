-- The digits behind a point
use Rattle.std.proofs.Common.{◌≡◌, ℕ, zero, suc, ◌+◌, ◌-◌, ◌*◌, ◌/◌, ◌%◌, ◌^◌, ◌<◌, true, ◌&&◌, List, [], ◌∷◌, length, refl, sym, ap, ap₂, ◌∙◌, arith, pow-add}
use Rattle.std.specs.List.{list_all}
use Rattle.std.specs.Char.{is_ascii_digit}
use Rattle.std.proofs.lemmas.Bool.Decides.{nat_tests}
use Rattle.std.proofs.Math.Nat.{pow-suc, div-lt_iff_lt-mul, mod-lt}
use Rattle.ember_dec.specs.Digits.{number_from}
use Rattle.mesh_number.proofs.DigitNumbers.{pow_ten_pos, number_from-behind}
use Rattle.mesh_number.specs.Round.Decimals.{fraction_digits}

-- digits that, with zeros up to so many places, spell a number
pub record ArePlaces (places part : ℕ) (ds : List ℕ) : Type 0 where
  pub digits : list_all is_ascii_digit ds ≡ true
  pub zeros : ℕ
  pub count : length ds + zeros ≡ places
  pub spells : number_from 0 ds * 10 ^ zeros ≡ part

is_digit : (q : ℕ) → q < 10 → is_ascii_digit (48 + q) ≡ true
is_digit q small = grind (arith, nat_tests)

digit_in_front : (q l n z k part rest power : ℕ) → power ≡ l * z → n * z ≡ rest → power * q + rest ≡ part → ((0 * 10 + (48 + q - 48)) * l + n) * z ≡ part
digit_in_front q l n z k part rest power e f g =
    let d : 0 * 10 + (48 + q - 48) ≡ q = omega arith in
    rw d (regroup q l n z ∙ (ap₂ (λ (a b : ℕ). a * q + b) (sym e) f) ∙ g)
  where
    regroup : (q l n z : ℕ) → (q * l + n) * z ≡ (l * z) * q + n * z
    regroup q l n z = omega arith

digits_more : (k n : ℕ) (ds : List ℕ) → suc n < 10 ^ suc k → ArePlaces k (suc n % 10 ^ k) ds → ArePlaces (suc k) (suc n) ((48 + suc n / 10 ^ k) ∷ ds)
digits_more k n ds small h =
    let q = suc n / 10 ^ k in
    let positive = pow_ten_pos k in
    let raised = pow-suc 10 k in
    let below : q < 10 = (div-lt_iff_lt-mul positive).1 (omega (arith, small, raised)) in
    let power : 10 ^ k ≡ 10 ^ length ds * 10 ^ h.zeros = ap (λ (i : ℕ). 10 ^ i) (sym h.count) ∙ pow-add 10 (length ds) h.zeros in
    let whole : 10 ^ k * q + suc n % 10 ^ k ≡ suc n = omega (arith, positive) in
    record {
      digits = ap₂ (λ a b. a && b) (is_digit q below) h.digits;
      zeros = h.zeros;
      count = omega (arith, h.count);
      spells = ap (λ (i : ℕ). i * 10 ^ h.zeros) (number_from-behind ((48 + q) ∷ []) ds)
          ∙ digit_in_front q (10 ^ length ds) (number_from 0 ds) (10 ^ h.zeros) k (suc n) (suc n % 10 ^ k) (10 ^ k) power
          h.spells whole;
    }

pub fraction_places : (places part : ℕ) → part < 10 ^ places → ArePlaces places part (fraction_digits places part)
fraction_places zero part small = record { digits = refl; zeros = 0; count = refl; spells = omega (arith, small) }
fraction_places (suc k) zero small = record { digits = refl; zeros = suc k; count = omega arith; spells = omega arith }
fraction_places (suc k) (suc n) small = digits_more k n (fraction_digits k (suc n % 10 ^ k)) small
    (fraction_places k (suc n % 10 ^ k) (mod-lt (suc n) (pow_ten_pos k)))
