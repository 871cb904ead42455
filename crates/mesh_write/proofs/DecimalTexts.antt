-- The value of a decimal's text
use Rattle.std.proofs.Common.{◌≡◌, ℕ, zero, suc, ◌+◌, ◌<◌, Bool, true, false, ◌==◌, List, [], ◌∷◌, ◌++◌, length}
use Rattle.std.proofs.Common.{append-nil, Option, Some, refl, sym, ap, ap₂, ◌∙◌, arith, ltb}
use Rattle.std.specs.Prelude.{All, if◌then◌else◌}
use Rattle.std.specs.List.{list_all}
use Rattle.std.specs.Char.{is_ascii_digit}
use Rattle.std.proofs.lemmas.Bool.Decides.{nat_tests}
use Rattle.std.proofs.lemmas.List.Elements.{All-cons, All-nil, All-append}
use Rattle.std.proofs.lemmas.Bool.{and_parts}
use Rattle.ember_dec.specs.Decimal.{is_decimal, is_minus, unsigned, before_point, behind_point}
use Rattle.mesh_number.specs.Number.Fractions.{Fraction}
use Rattle.mesh_number.specs.Number.Texts.{value_of_text, value_of_parts, mantissa, exponent_of}
use Rattle.mesh_number.specs.Number.Values.{decimal_value}
use Rattle.mesh_number.specs.Round.Decimals.{fraction_digits, fraction_text}
use Rattle.mesh_number.proofs.Digits.{no_digits}
use Rattle.mesh_write.proofs.PlainTexts.{IsPlain, no_exponent, digits_plain, plain_mantissa, plain_exponent}
use Rattle.mesh_write.proofs.PlainTexts.{digits_before, digits_behind, digit_unsigned, digit_is_no_minus}

-- what stands behind a whole number: these digits behind a point, or nothing
pub record IsTail (t ds : List ℕ) : Type 0 where
  pub before : before_point t ≡ []
  pub behind : behind_point t ≡ ds
  pub plain : All IsPlain t

-- a number above 0 is not 0
pub not_none : (n : ℕ) → (suc n == 0) ≡ false
not_none n = grind (arith, nat_tests)

some_tail : (none : Bool) (ds : List ℕ) → none ≡ false → list_all is_ascii_digit ds ≡ true → IsTail (if none then [] else 46 ∷ ds) ds
some_tail true ds e h = absurd (cc)
some_tail false ds e h = record {
  before = refl;
  behind = refl;
  plain = All-cons IsPlain 46 ds (record { low = omega arith; high = omega arith }) (digits_plain ds h);
}

pub fraction_tail : (places part : ℕ) → list_all is_ascii_digit (fraction_digits places part) ≡ true →
    IsTail (fraction_text places part) (fraction_digits places part)
fraction_tail places zero h = record { before = refl; behind = sym (no_digits places); plain = All-nil IsPlain }
fraction_tail places (suc n) h = some_tail (suc n == 0) (fraction_digits places (suc n)) (not_none n) h

-- ---- the parts of a text
parts_value : (minus : Bool) (body whole fraction : List ℕ) → mantissa body ≡ body → before_point body ≡ whole →
    behind_point body ≡ fraction → exponent_of body ≡ Some no_exponent → is_decimal whole fraction ≡ true
    → value_of_parts minus (before_point (mantissa body)) (behind_point (mantissa body)) (exponent_of body) ≡ Some
    (decimal_value minus whole fraction no_exponent)
parts_value minus body whole fraction m w f e d = rw (m, w, f, e, d) refl

are_decimal : (whole fraction : List ℕ) → list_all is_ascii_digit whole ≡ true → 0 < length whole →
    list_all is_ascii_digit fraction ≡ true → is_decimal whole fraction ≡ true
are_decimal whole fraction w some f =
    let more : ltb 0 (length whole + length fraction) ≡ true = grind (arith, nat_tests) in
    rw (w, f, more) refl

body_value : (minus : Bool) (whole fraction t : List ℕ) → list_all is_ascii_digit whole ≡ true → 0 < length whole →
    list_all is_ascii_digit fraction ≡ true → IsTail t fraction
    → value_of_parts minus (before_point (mantissa (whole ++ t))) (behind_point (mantissa (whole ++ t)))
    (exponent_of (whole ++ t)) ≡ Some (decimal_value minus whole fraction no_exponent)
body_value minus whole fraction t w some f h =
    let plain = All-append IsPlain whole t (digits_plain whole w) h.plain in
    parts_value minus (whole ++ t) whole fraction (plain_mantissa (whole ++ t) plain)
    (digits_before whole t w ∙ ap (λ (l : List ℕ). whole ++ l) h.before ∙ append-nil whole)
    (digits_behind whole t w ∙ h.behind) (plain_exponent (whole ++ t) plain) (are_decimal whole fraction w some f)

text_value : {r : Option Fraction} (minus : Bool) (text body : List ℕ) → is_minus text ≡ minus → unsigned text ≡ body
    → value_of_parts minus (before_point (mantissa body)) (behind_point (mantissa body)) (exponent_of body) ≡ r → value_of_text text ≡ r
text_value minus text body m u h =
    ap₂ (λ (s : Bool) (b : List ℕ). value_of_parts s (before_point (mantissa b)) (behind_point (mantissa b)) (exponent_of b)) m u ∙ h

unsigned_value : (whole fraction t : List ℕ) → list_all is_ascii_digit whole ≡ true → 0 < length whole →
    list_all is_ascii_digit fraction ≡ true → IsTail t fraction
    → value_of_text (whole ++ t) ≡ Some (decimal_value false whole fraction no_exponent)
unsigned_value [] fraction t w some f h = absurd (omega arith)
unsigned_value (d ∷ ds) fraction t w some f h =
    let parts = and_parts (is_ascii_digit d) (list_all is_ascii_digit ds) w in
    text_value false (d ∷ (ds ++ t)) (d ∷ (ds ++ t)) (digit_is_no_minus d (ds ++ t) parts.0) (digit_unsigned d (ds ++ t) parts.0)
    (body_value false (d ∷ ds) fraction t w some f h)

-- with or without a minus
pub signed_value : (minus : Bool) (whole fraction t : List ℕ) → list_all is_ascii_digit whole ≡ true →
    0 < length whole → list_all is_ascii_digit fraction ≡ true → IsTail t fraction
    → value_of_text ((if minus then 45 ∷ [] else []) ++ (whole ++ t)) ≡ Some (decimal_value minus whole fraction no_exponent)
signed_value false whole fraction t w some f h = unsigned_value whole fraction t w some f h
signed_value true whole fraction t w some f h = body_value true whole fraction t w some f h
