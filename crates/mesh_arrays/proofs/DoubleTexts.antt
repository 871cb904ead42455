-- The text of a decimal is read as a double
use Rattle.std.proofs.Common.{◌≡◌, ℕ, zero, suc, ◌+◌, ◌/◌, ◌%◌, ◌^◌, ◌<◌, Bool, true, false, not, List, [], ◌∷◌, ◌++◌, length, None, Some, refl, sym, true≢false, ap}
use Rattle.std.proofs.Common.{◌∙◌, arith, decimal, append-nil}
use Rattle.std.specs.Prelude.{◌==◌, ◌&&◌, if◌then◌else◌, nat_lt}
use Rattle.std.specs.Float.{binary64}
use Rattle.std.specs.Float.Numeral.{IsWellFormed, Parts, nearest_float, text_of}
use Rattle.std.specs.Fmt as fmt
use Rattle.std.specs.Str.Parse.{AllDigits}
use Rattle.std.proofs.Math.Nat.{pow-suc, div-lt_iff_lt-mul, mod-lt}
use Rattle.std.proofs.lemmas.Fmt.{decimal_is_IsNumeral_wide}
use Rattle.std.proofs.lemmas.Str.{digit_value_digit}
use Rattle.fast_float.specs.Parse.{parse_float}
use Rattle.fast_float.proofs.Writing.{parse_float-text_of}
use Rattle.mesh_number.specs.Round.Decimals.{decimal_text, fraction_digits, fraction_text, sign_text}
use Rattle.mesh_number.proofs.DigitNumbers.{pow_ten_pos}
use Rattle.mesh_number.proofs.Digits.{no_digits}
use Rattle.mesh_write.proofs.DecimalTexts.{not_none}

-- ---- digits
fraction_is_digits : (places part : ℕ) → part < 10 ^ places → AllDigits 10 (fraction_digits places part)
fraction_is_digits zero part small = tt
fraction_is_digits (suc places) zero small = tt
fraction_is_digits (suc places) (suc n) small =
    let positive = pow_ten_pos places in
    let raised = pow-suc 10 places in
    let below : suc n / 10 ^ places < 10 = (div-lt_iff_lt-mul positive).1 (omega (arith, small, raised)) in
    let value = digit_value_digit (48 + suc n / 10 ^ places) (omega (arith, below)) in
    (omega (arith, value, below), fraction_is_digits places (suc n % 10 ^ places) (mod-lt (suc n) positive))

-- ---- the parts of a text
-- a whole number, and digits behind a point, which is there if there are any
abbrev parts : ℕ → Bool → List ℕ → Parts
parts whole point fraction = record {
  whole = decimal whole;
  point = point;
  fraction = fraction;
  exponent_negative = false;
  exponent = [];
  len = length (decimal whole ++ ((if point then 46 ∷ fraction else []) ++ []));
}

parts_are_formed : (whole : ℕ) (point : Bool) (fraction : List ℕ) → whole < 10 ^ 64 → AllDigits 10 fraction →
    (point ≡ false → fraction ≡ []) → IsWellFormed (parts whole point fraction)
parts_are_formed whole point fraction small digits none = record {
  whole_digits = (decimal_is_IsNumeral_wide whole small).0.1;
  fraction_digits = digits;
  exponent_digits = tt;
  no_point = none;
  no_exponent = λ e. refl;
  len_is = refl;
}

-- ---- the text
-- there is a point exactly if a part is left
abbrev has_point : ℕ → Bool
has_point part = not (part == 0)

no_point : (places part : ℕ) → has_point part ≡ false → fraction_digits places part ≡ []
no_point places zero e = no_digits places
no_point places (suc n) e = absurd (true≢false (sym (ap not (not_none n)) ∙ e))

exchanged : (b : Bool) (xs ys : List ℕ) → (if b then xs else ys) ≡ (if not b then ys else xs)
exchanged true xs ys = refl
exchanged false xs ys = refl

fraction_is : (places part : ℕ) → fraction_text places part ≡ (if has_point part then 46 ∷ fraction_digits places part else [])
fraction_is places part = exchanged (part == 0) [] (46 ∷ fraction_digits places part)

text_is : (negative : Bool) (size places : ℕ) →
    decimal_text negative size places ≡ fmt.sign_text (negative && nat_lt 0 size)
    ++ text_of (parts (size / 10 ^ places) (has_point (size % 10 ^ places)) (fraction_digits places (size % 10 ^ places)))
text_is negative size places =
    ap (λ (t : List ℕ). sign_text negative size ++ (decimal (size / 10 ^ places) ++ t))
    (fraction_is places (size % 10 ^ places) ∙ sym (append-nil _))

-- the double that it is read as
pub text_is_read : (negative : Bool) (size places : ℕ) → size < 10 ^ 64 →
    parse_float binary64 (decimal_text negative size places) ≡ Some (nearest_float binary64 (negative && nat_lt 0 size)
    (parts (size / 10 ^ places) (has_point (size % 10 ^ places)) (fraction_digits places (size % 10 ^ places))))
text_is_read negative size places small =
    let whole = size / 10 ^ places in
    let part = size % 10 ^ places in
    let below : whole < 10 ^ 64 = omega (arith, small, pow_ten_pos places) in
    let digits = fraction_is_digits places part (mod-lt size (pow_ten_pos places)) in
    let formed = parts_are_formed whole (has_point part) (fraction_digits places part) below digits (no_point places part) in
    ap (parse_float binary64) (text_is negative size places)
    ∙ parse_float-text_of binary64 (negative && nat_lt 0 size) (parts whole (has_point part) (fraction_digits places part)) formed
    (decimal_is_IsNumeral_wide whole below).0.0

-- so a text of a decimal isn't refused
pub text_has_double : (negative : Bool) (size places : ℕ) (cleared items text : List ℕ) → cleared ≡ [] →
    items ≡ cleared ++ decimal_text negative size places → text ≡ items → size < 10 ^ 64 → parse_float binary64 text ≡ None → ⊥
text_has_double negative size places cleared items text c i t small none =
    let same : text ≡ decimal_text negative size places =
    t ∙ i ∙ ap (λ (xs : List ℕ). xs ++ decimal_text negative size places) c in
    let e = sym (ap (parse_float binary64) same ∙ text_is_read negative size places small) ∙ none in cc
