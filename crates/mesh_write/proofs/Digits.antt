-- The digits that whole numbers are written with
use Rattle.std.proofs.Common.{◌≡◌, ℕ, ◌<◌, ◌^◌, true, length, Some, refl, arith, rules, decimal, ltb}
use Rattle.std.specs.List.{list_all}
use Rattle.std.specs.Char.{is_ascii_digit}
use Rattle.std.proofs.lemmas.Bool.Decides.{nat_tests}
use Rattle.std.proofs.lemmas.Fmt.{digits_decimal, digits_value-decimal, decimal_nonempty}
use Rattle.std.proofs.lemmas.Str.Parse.{IsNumeralModel, numerals_by_fold}
use Rattle.ember_dec.specs.Digits.{number_from}
use Rattle.mesh_number.specs.Number.Naturals.{number_of}

own : IsNumeralModel (λ ds. list_all is_ascii_digit ds ≡ true) (number_from 0)
own = numerals_by_fold _ (search rules) number_from (search rules)

pub decimal_digits : (n : ℕ) → n < 2 ^ 64 → list_all is_ascii_digit (decimal n) ≡ true
decimal_digits n small = digits_decimal own n small

pub decimal_number : (n : ℕ) → n < 2 ^ 64 → number_from 0 (decimal n) ≡ n
decimal_number n small = digits_value-decimal own n small

pub decimal_some : (n : ℕ) → n < 2 ^ 64 → ltb 0 (length (decimal n)) ≡ true
decimal_some n small = let some = decimal_nonempty n small in grind (arith, nat_tests)

-- the digits of a number spell it
pub number_of_decimal : (n : ℕ) → n < 2 ^ 64 → number_of (decimal n) ≡ Some n
number_of_decimal n small = rw (decimal_some n small, decimal_digits n small, decimal_number n small) refl
