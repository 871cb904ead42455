-- What `parse` reads from decimal digits, and texts that begin with a hyphen
use Rattle.std.proofs.Common.{◌≡◌, ◌≢◌, ℕ, ◌<◌, ◌≤◌, ◌^◌, List, [], ◌∷◌, length, Bool, true, false, Option, Some, None}
use Rattle.std.proofs.Common.{Result, Ok, Err, refl, ap, arith, rules, inl, inr, cond}
use Rattle.std.specs.Prelude.{IfSome, MatchOption}
use Rattle.std.specs.Borrow.{Bor}
use Rattle.std.specs.List.{list_all}
use Rattle.std.specs.Result.{result_ok}
use Rattle.std.specs.Char.{is_ascii_digit}
use Rattle.std.specs.Str.Parse.{ParsesUnsigned, digits_value}
use Rattle.std.proofs.lemmas.Bool.Decides.{nat_tests, eqb_tells}
use Rattle.std.proofs.lemmas.Str.Parse.{IsNumeralModel, numerals_by_value, digits_value_short, parse_digits, parse_gives}
use Rattle.ember_words.specs.Limits.{decimal_of, is_decimal, is_minus, without_minus}

-- texts of ASCII digits are the numerals
own : IsNumeralModel (λ ds. list_all is_ascii_digit ds ≡ true) (digits_value 10)
own = numerals_by_value _ (search rules)

empty_parse : {E : Type 0} (r : Result ℕ E) → ParsesUnsigned 64 10 [] r → result_ok r ≡ None
empty_parse {E} (Ok n) h =
    let some = (parse_digits own {E = E} 64 [] (Ok n) h refl).0 in
    absurd (omega arith)
empty_parse (Err e) h = refl

-- the library's `parse` of at most 18 digits gives the decimal
pub digits_parse : {E : Type 0} (most : ℕ) (text : List ℕ) (r : Result ℕ E) → ParsesUnsigned 64 10 text r →
    list_all is_ascii_digit text ≡ true → length text ≤ most → most ≤ 18
    → result_ok r ≡ decimal_of most text
digits_parse most [] r h digits short few = empty_parse r h
digits_parse most (b ∷ bs) r h digits short few =
    let small : digits_value 10 (b ∷ bs) < 10 ^ 18 = digits_value_short own (b ∷ bs) 18 digits (omega arith) in
    let is : r ≡ Ok (digits_value 10 (b ∷ bs)) = parse_gives own 64 (b ∷ bs) r h digits (omega arith) (omega arith) in
    rw (is, digits) (grind (arith, nat_tests))

-- a decimal of at most 18 digits is below 10^18
pub decimal_small : (most : ℕ) (text : List ℕ) → most ≤ 18 → IfSome (decimal_of most text) (λ n. n < 10 ^ 18)
decimal_small most text few = go (is_decimal most text) refl
  where
    go : (b : Bool) → is_decimal most text ≡ b → IfSome (cond b (Some (digits_value 10 text)) None) (λ n. n < 10 ^ 18)
    go false e = tt
    go true e = digits_value_short own text 18 (grind (arith, nat_tests)) (grind (arith, nat_tests))

-- a text with too many bytes is no decimal
pub no_decimal : (most : ℕ) (text : List ℕ) → most < length text → decimal_of most text ≡ None
no_decimal most text long = grind (arith, nat_tests)

-- a text without its hyphen
pub minus_is_stripped : (text : List ℕ) (r : Option (Bor (List ℕ))) → MatchOption r ((rest : List ℕ) → text ≢ 45 ∷ rest) (λ x. text ≡ 45 ∷ x.now)
    → MatchOption r ((false ≡ is_minus text) × (text ≡ without_minus text)) (λ x. (true ≡ is_minus text) × (x.now ≡ without_minus text))
minus_is_stripped text (Some x) h = rw h (refl, refl)
minus_is_stripped [] None h = (refl, refl)
minus_is_stripped (b ∷ bs) None h = elim (eqb_tells b 45) [
  | inl e ↦ absurd (h bs (ap (λ x. x ∷ bs) e.1))
  | inr e ↦ rw e.0 (refl, refl)
]
