-- The signs of numbers
use Rattle.std.proofs.Common.{◌≡◌, ◌<◌, ℕ, zero, suc, ◌+◌, ◌-◌, ◌*◌, ◌^◌, ◌==◌, ◌&&◌, Bool, true, false, not, List, []}
use Rattle.std.proofs.Common.{◌∷◌, ◌++◌, refl, sym, ◌∙◌, arith, mul-pos, inl, inr}
use Rattle.std.specs.Prelude.{nat_lt}
use Rattle.std.specs.Int.{is_positive}
use Rattle.std.specs.List.{list_all}
use Rattle.std.specs.Char.{is_ascii_digit}
use Rattle.std.proofs.lemmas.Bool.Decides.{nat_tests, eqb_tells}
use Rattle.std.proofs.lemmas.List.Folds.{list_all-append}
use Rattle.std.proofs.lemmas.Nat.{pow_pos}
use Rattle.std.proofs.lemmas.Bool.{and_parts}
use Rattle.ember_dec.specs.Digits.{number_from}
use Rattle.ember_dec.proofs.Numbers.{number_from-grows}
use Rattle.mesh_number.specs.declared.number.values.Exponent.{Exponent}
use Rattle.mesh_number.specs.Number.Fractions.{signed_whole}
use Rattle.mesh_number.specs.Number.Values.{decimal_value, places_right}
use Rattle.mesh_number.proofs.DigitNumbers.{pow_ten_pos}

abbrev is_zero : ℕ → Bool
is_zero b = b == 48

-- a sign and a size
signed_zero : (minus : Bool) (size : ℕ) → size ≡ 0 → is_positive (signed_whole minus size) ≡ false
signed_zero true size e = rw e refl
signed_zero false size e = rw e refl

some_size : (size : ℕ) → 0 < size → nat_lt 0 size ≡ true
some_size size p = grind (arith, nat_tests)

signed_some : (minus : Bool) (size : ℕ) → 0 < size → is_positive (signed_whole minus size) ≡ not minus
signed_some true zero p = absurd (omega arith)
signed_some true (suc n) p = refl
signed_some false size p = some_size size p

-- digits that are all 0
zeros : (ds : List ℕ) → list_all is_zero ds ≡ true → number_from 0 ds ≡ 0
zeros [] h = refl
zeros (d ∷ ds) h =
    let parts = and_parts (is_zero d) (list_all is_zero ds) h in
    elim (eqb_tells d 48) [
      | inl e ↦ rw e.1 (zeros ds parts.1)
      | inr e ↦ absurd (cc)
    ]

-- digits of which one isn't 0, or that follow a number above 0
behind_some : (s : ℕ) (ds : List ℕ) → 0 < s → 0 < number_from s ds
behind_some s ds p = omega (arith, number_from-grows s ds)

some_digit : (s : ℕ) (ds : List ℕ) → list_all is_ascii_digit ds ≡ true → list_all is_zero ds ≡ false → 0 < number_from s ds
some_digit s [] h n = absurd (cc)
some_digit s (d ∷ ds) h n =
    let parts = and_parts (is_ascii_digit d) (list_all is_ascii_digit ds) h in
    elim (eqb_tells d 48) [
      | inl e ↦ some_digit (s * 10 + (d - 48)) ds parts.1 (rw e.0 at n)
      | inr e ↦
          let large : 0 < s * 10 + (d - 48) = grind (arith, nat_tests, parts.0, e.1) in
          behind_some (s * 10 + (d - 48)) ds large
    ]

all_digits : (whole fraction : List ℕ) → list_all is_ascii_digit whole ≡ true →
    list_all is_ascii_digit fraction ≡ true → list_all is_ascii_digit (whole ++ fraction) ≡ true
all_digits whole fraction w f = rw (list_all-append is_ascii_digit whole fraction, w, f) refl

size_sign : (minus : Bool) (ds : List ℕ) (k : ℕ) → list_all is_ascii_digit ds ≡ true → (zero : Bool) → list_all is_zero ds ≡ zero
    → is_positive (signed_whole minus (number_from 0 ds * 10 ^ k)) ≡ (not minus && not zero)
size_sign true ds k h true e = signed_zero true (number_from 0 ds * 10 ^ k) (rw (zeros ds e) (omega arith))
size_sign false ds k h true e = signed_zero false (number_from 0 ds * 10 ^ k) (rw (zeros ds e) (omega arith))
size_sign true ds k h false e = signed_some true (number_from 0 ds * 10 ^ k) (mul-pos (some_digit 0 ds h e) (pow_ten_pos k))
size_sign false ds k h false e = signed_some false (number_from 0 ds * 10 ^ k) (mul-pos (some_digit 0 ds h e) (pow_ten_pos k))

-- a decimal is positive exactly if it has no minus and a digit that isn't 0
pub decimal_sign : (minus : Bool) (whole fraction : List ℕ) (e : Exponent) → list_all is_ascii_digit whole ≡ true → list_all is_ascii_digit fraction ≡ true
    → is_positive (decimal_value minus whole fraction e).numerator ≡ (not minus && not (list_all is_zero whole && list_all is_zero fraction))
decimal_sign minus whole fraction e w f =
    size_sign minus (whole ++ fraction) (places_right e) (all_digits whole fraction w f) (list_all is_zero whole && list_all is_zero fraction)
    (list_all-append is_zero whole fraction)

-- a binary number is positive exactly if it has no minus and its significand isn't 0
pub binary_sign : (minus : Bool) (significand power : ℕ) → is_positive (signed_whole minus (significand * 2 ^ power)) ≡ (not minus && nat_lt 0 significand)
binary_sign true zero power = signed_zero true (0 * 2 ^ power) (omega arith)
binary_sign false zero power = signed_zero false (0 * 2 ^ power) (omega arith)
binary_sign true (suc n) power = signed_some true (suc n * 2 ^ power) (mul-pos (omega arith) (pow_pos power))
binary_sign false (suc n) power =
    signed_some false (suc n * 2 ^ power) (mul-pos (omega arith) (pow_pos power)) ∙ sym (some_size (suc n) (omega arith))
