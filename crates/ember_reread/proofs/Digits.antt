-- Digits, and the numbers that they spell.
use Rattle.std.proofs.Common.{◌≡◌, sym, ap, ◌∙◌, arith, ℕ, zero, suc, ◌+◌, ◌-◌, ◌*◌, ◌/◌, ◌%◌, ◌^◌, ◌<◌, ◌≤◌, true}
use Rattle.std.proofs.Common.{false, not, ◌&&◌, eqb, List, [], ◌∷◌, ◌++◌, length, get_or, length-append, decimal}
use Rattle.std.proofs.Common.{append-nil, append_assoc, rules}
use Rattle.std.specs.List.{list_all}
use Rattle.std.specs.Char.{is_ascii_digit, digit_value}
use Rattle.std.specs.Str.Parse.{AllDigits, digits_value, digits_value_after}
use Rattle.std.proofs.lemmas.Str.{digit_value_digit}
use Rattle.std.proofs.lemmas.Str.Parse.{IsNumeralModel, numerals_by_fold, digit_from_value}
use Rattle.std.proofs.lemmas.Fmt.{decimal_is_IsNumeral_wide, decimal_digit, decimal_step_wide, decimal_by_steps_wide}
use Rattle.std.proofs.lemmas.Bool.{ne_eqb}
use Rattle.std.proofs.Math.ListN.{get_or-append}
use Rattle.ember_dec.specs.Digits.{number_from}
use Rattle.ember_reread.specs.Numbers.{is_padded, IsSize}

-- ---- from a number to its digits, and back
-- all bytes are digits
abbrev pub AreDigits : List ℕ → Type 0
AreDigits ds = list_all is_ascii_digit ds ≡ true

own : IsNumeralModel AreDigits (number_from 0)
own = numerals_by_fold AreDigits (search rules) number_from (search rules)

number_decimal : (n : ℕ) → n < 10 ^ 64 → number_from 0 (decimal n) ≡ n
number_decimal n small = own.same (decimal n) (decimal_is_IsNumeral_wide n small).0.1 ∙ (decimal_is_IsNumeral_wide n small).1

-- numbers below 10^64 with the same digits are equal
pub decimal_injective_wide : (m n : ℕ) → m < 10 ^ 64 → n < 10 ^ 64 → decimal m ≡ decimal n → m ≡ n
decimal_injective_wide m n p q e = sym (number_decimal m p) ∙ ap (number_from 0) e ∙ number_decimal n q

-- what follows the digits of a number spells the rest of it
decimal_after : (n : ℕ) (ds : List ℕ) → 0 < n → AllDigits 10 ds → digits_value_after 10 n ds < 10 ^ 64 →
    n ≤ digits_value_after 10 n ds × (decimal (digits_value_after 10 n ds) ≡ decimal n ++ ds)
decimal_after n [] some d small = (omega arith, sym (append-nil (decimal n)))
decimal_after n (c ∷ cs) some d small =
    let m : ℕ = n * 10 + digit_value c in
    let k = digit_value_digit c (digit_from_value c d.0) in
    let front : m / 10 ≡ n = omega (arith, d.0) in
    let end : 48 + m % 10 ≡ c = omega (arith, d.0) in
    let more = decimal_after m cs (omega arith) d.1 small in (
      omega (arith, more.0),
      more.1 ∙ ap (λ x. x ++ cs)
          (decimal_step_wide m (omega arith) (omega (arith, more.0)) ∙ (λ i. decimal (front i) ++ (end i ∷ [])))
          ∙ append_assoc (decimal n) (c ∷ []) cs,
    )

decimal_value : (ds : List ℕ) → AllDigits 10 ds → is_padded ds ≡ false → digits_value 10 ds < 10 ^ 64 → decimal (digits_value 10 ds) ≡ ds
decimal_value [] d lead small = absurd (cc)
decimal_value (c ∷ []) d lead small =
    let k = digit_value_digit c (digit_from_value c d.0) in
    decimal_digit (0 * 10 + digit_value c) (omega (arith, d.0)) ∙ ap (λ x. x ∷ []) (omega arith)
decimal_value (c ∷ e ∷ cs) d lead small =
    let k = digit_value_digit c (digit_from_value c d.0) in
    let no : c ≡ 48 → ⊥ = λ z. absurd (grind (arith, lead, z)) in
    let is : 48 + (0 * 10 + digit_value c) ≡ c = omega arith in
    (decimal_after (0 * 10 + digit_value c) (e ∷ cs) (omega arith) d.1 small).1
    ∙ ap (λ x. x ++ (e ∷ cs)) (decimal_digit (0 * 10 + digit_value c) (omega (arith, d.0)) ∙ ap (λ x. x ∷ []) is)

decimal_number : (ds : List ℕ) → list_all is_ascii_digit ds ≡ true → is_padded ds ≡ false → number_from 0 ds < 10 ^ 64 → decimal (number_from 0 ds) ≡ ds
decimal_number ds p lead small =
    let d = own.to ds p in ap decimal (own.same ds d) ∙ decimal_value ds d lead (omega (arith, own.same ds d))

-- ---- numerals
first_digit : (n : ℕ) → n < 10 ^ 64 → (0 < length (decimal n)) × (0 < n → 48 < get_or (decimal n) 0 0)
first_digit =
    decimal_by_steps_wide (λ m ds. (0 < length ds) × (0 < m → 48 < get_or ds 0 0))
    (λ m l. (omega arith, λ a. omega arith))
    (λ m ds l h. (omega (arith, length-append ds ((48 + m % 10) ∷ [])), λ a. omega (arith, get_or-append ds ((48 + m % 10) ∷ []) 0 0 h.0, h.1 (omega arith))))

unpadded : (ds : List ℕ) → 48 < get_or ds 0 0 → is_padded ds ≡ false
unpadded [] h = absurd (omega arith)
unpadded (d ∷ ds) h = ap (λ b. b && not (eqb (length ds) 0)) (ne_eqb d 48 (λ e. omega arith))

decimal_unpadded : (n : ℕ) → n < 10 ^ 64 → is_padded (decimal n) ≡ false
decimal_unpadded zero small = ap is_padded (decimal_digit 0 (omega arith))
decimal_unpadded (suc n) small = unpadded (decimal (suc n)) ((first_digit (suc n) small).1 (omega arith))

-- the digits of a size have no 0 before them
pub size_unpadded : {most n : ℕ} {ds : List ℕ} → most < 2 ^ 124 → IsSize most n ds → is_padded ds ≡ false
size_unpadded {n = n} l h = ap is_padded h.is ∙ decimal_unpadded n (omega (arith, h.small))

-- the digits of a size spell it
pub size_value : {most n : ℕ} {ds : List ℕ} → most < 2 ^ 124 → IsSize most n ds → number_from 0 ds ≡ n
size_value {n = n} l h =
    ap (number_from 0) h.is ∙ number_decimal n (omega (arith, h.small))

-- unpadded digits are the size that they spell
pub value_size : {most : ℕ} {ds : List ℕ} → most < 2 ^ 124 → list_all is_ascii_digit ds ≡ true → is_padded ds ≡ false →
    number_from 0 ds ≤ most → IsSize most (number_from 0 ds) ds
value_size {ds = ds} l d p small =
    record { small = small; is = sym (decimal_number ds d p (omega arith)) }
