-- The decimals: [+-] digits [. digits] [(e|E) [+-] digits], with a digit before the e, and an exponent of at most
-- 9999 in size
use Rattle.std.specs.Prelude.{ℕ, ◌==◌, ◌||◌, ◌&&◌, Bool, false, List, [], ◌∷◌, length, Option, Some}
use Rattle.std.specs.Prelude.{None, if◌then◌else◌, nat_lt}
use Rattle.std.specs.List.{list_all}
use Rattle.std.specs.Option.{option_map}
use Rattle.std.specs.Char.{is_ascii_digit}
use Rattle.ember_dec.specs.Digits.{number_from}
use Rattle.ember_dec.specs.Decimal.{is_minus, unsigned, before_point, behind_point, is_decimal}
use Rattle.mesh_number.specs.declared.number.values.Exponent.{Exponent}
use Rattle.mesh_number.specs.Number.Fractions.{Fraction}
use Rattle.mesh_number.specs.Number.Values.{decimal_value}

-- e or E
abbrev pub begins_exponent : ℕ → Bool
begins_exponent b = b == 101 || b == 69

-- the text before the first e
abbrev pub mantissa : List ℕ → List ℕ
mantissa [] = []
mantissa (b ∷ bs) = if begins_exponent b then [] else b ∷ mantissa bs

-- an exponent with this sign and these digits
abbrev pub exponent_of_digits : Bool → List ℕ → Option Exponent
exponent_of_digits minus digits =
    if list_all is_ascii_digit digits && (nat_lt 0 (length digits) && nat_lt (number_from 0 digits) 10000)
    then Some (record { minus = minus; size = number_from 0 digits }) else None

-- the exponent after the first e, or 0 if there is no e
abbrev pub exponent_of : List ℕ → Option Exponent
exponent_of [] = Some (record { minus = false; size = 0 })
exponent_of (b ∷ bs) = if begins_exponent b then exponent_of_digits (is_minus bs) (unsigned bs) else exponent_of bs

-- the value of a decimal with this sign, these digits and this exponent
abbrev pub value_of_parts : Bool → List ℕ → List ℕ → Option Exponent → Option Fraction
value_of_parts minus whole fraction e =
    if is_decimal whole fraction then option_map (decimal_value minus whole fraction) e else None

-- the value of a text, if it is a decimal
abbrev pub value_of_text : List ℕ → Option Fraction
value_of_text text =
    let digits = mantissa (unsigned text) in
    value_of_parts (is_minus text) (before_point digits) (behind_point digits) (exponent_of (unsigned text))
