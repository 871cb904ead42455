-- A coordinate's text, and its value in units of 10^-places.
use Rattle.std.specs.Prelude.{ℕ, ◌+◌, ◌-◌, Bool, false, ◌&&◌, ◌||◌, List, [], ◌∷◌, ◌++◌}
use Rattle.std.specs.Prelude.{if◌then◌else◌, ◌==◌, nat_lt, nat_le, length, take, drop, replicate, ℤ, pos}
use Rattle.std.specs.Prelude.{neg_ℤ, Result, Ok, Err}
use Rattle.std.specs.List.{list_all}
use Rattle.std.specs.Char.{is_ascii_digit}
use Rattle.ember_dec.specs.Digits.{number_from}
use Rattle.ember_dec.specs.declared.DecFault.{DecFault}
use Rattle.ember_dec.specs.declared.DecFault.TheVariants.{Malformed, Fraction, Range}

-- whether the text begins with a minus
abbrev pub is_minus : List ℕ → Bool
is_minus [] = false
is_minus (b ∷ bs) = b == 45

-- the text after a plus or minus at its beginning
abbrev pub unsigned : List ℕ → List ℕ
unsigned [] = []
unsigned (b ∷ bs) = if b == 43 || b == 45 then bs else b ∷ bs

-- the bytes before the first point
abbrev pub before_point : List ℕ → List ℕ
before_point [] = []
before_point (b ∷ bs) = if b == 46 then [] else b ∷ before_point bs

-- the bytes after the first point
abbrev pub behind_point : List ℕ → List ℕ
behind_point [] = []
behind_point (b ∷ bs) = if b == 46 then bs else behind_point bs

-- digits alone, with at least one in all
abbrev pub is_decimal : List ℕ → List ℕ → Bool
is_decimal whole fraction =
    (list_all is_ascii_digit whole && list_all is_ascii_digit fraction) && nat_lt 0 (length whole + length fraction)

-- the digits after the point, cut or filled up with zeros to as many as there are places
abbrev pub filled : ℕ → List ℕ → List ℕ
filled places fraction = take places fraction ++ replicate (places - length fraction) 48

-- the size in units, which the digits spell once the point is moved by the places
abbrev pub units : ℕ → List ℕ → List ℕ → ℕ
units places whole fraction = number_from 0 (whole ++ filled places fraction)

-- a number of units that is in range, with its sign
abbrev pub in_range : Bool → ℕ → Result ℤ DecFault
in_range minus size = if nat_le size 2047 then Ok (if minus then neg_ℤ (pos size) else pos size) else Err Range

-- the coordinate with this sign and these parts before and after the point, or its first fault
abbrev pub value_in_units : Bool → ℕ → List ℕ → List ℕ → Result ℤ DecFault
value_in_units minus places whole fraction =
    if is_decimal whole fraction
    then (if list_all (λ b. b == 48) (drop places fraction) then in_range minus (units places whole fraction)
    else Err Fraction)
    else Err Malformed

-- the coordinate that a text spells, or its first fault
abbrev pub coordinate_of : ℕ → List ℕ → Result ℤ DecFault
coordinate_of places text =
    value_in_units (is_minus text) places (before_point (unsigned text)) (behind_point (unsigned text))
