-- What the values of options, file names and BOXES may be
use Rattle.std.specs.Prelude.{ℕ, ℤ, pos, neg_ℤ, ◌==◌, ◌&&◌, Bool, false, not, nat_lt, nat_le, int_lt}
use Rattle.std.specs.Prelude.{unsigned_abs, length, codes}
use Rattle.std.specs.Prelude.{List, [], ◌∷◌, Option, Some, None, option_map, option_and_then, if◌then◌else◌}
use Rattle.std.specs.List.{list_all}
use Rattle.std.specs.Char.{is_ascii_digit}
use Rattle.std.specs.Str.{bytes_eq}
use Rattle.std.specs.Str.Parse.{digits_value}
use Rattle.clap.specs.Walk.{Text, is_empty}
use Rattle.ember_model.specs.declared.point.Spot.{Spot}

-- one to `most_digits` decimal digits
abbrev pub is_decimal : ℕ → Text → Bool
is_decimal most_digits text = nat_lt 0 (length text)
    && (nat_le (length text) most_digits && list_all is_ascii_digit text)

-- the number that one to `most_digits` decimal digits write
abbrev pub decimal_of : ℕ → Text → Option ℕ
decimal_of most_digits text = if is_decimal most_digits text then Some (digits_value 10 text) else None

abbrev pub within : ℕ → ℕ → ℕ → Option ℕ
within least most n = if nat_le least n && nat_le n most then Some n else None

-- one to nine decimal digits of a number from `least` to `most`
abbrev pub number_within : ℕ → ℕ → Text → Option ℕ
number_within least most text = option_and_then (within least most) (decimal_of 9 text)

-- the text begins with a hyphen (45)
abbrev pub is_minus : Text → Bool
is_minus [] = false
is_minus (b ∷ bs) = b == 45

-- the text after a hyphen at its beginning
abbrev pub without_minus : Text → Text
without_minus [] = []
without_minus (b ∷ bs) = if b == 45 then bs else b ∷ bs

abbrev pub signed_whole : Bool → ℕ → ℤ
signed_whole minus n = if minus then neg_ℤ (pos n) else pos n

-- an optional hyphen and one to `most_digits` decimal digits
abbrev pub whole_of : ℕ → Text → Option ℤ
whole_of most_digits text = option_map (signed_whole (is_minus text)) (decimal_of most_digits (without_minus text))

-- from -2048 to 2047
abbrev pub is_height : ℤ → Bool
is_height z = not (int_lt z (neg_ℤ (pos 2048))) && not (int_lt (pos 2047) z)

abbrev pub as_height : ℤ → Option ℤ
as_height z = if is_height z then Some z else None

-- an optional hyphen and one to nine decimal digits of a number from -2048 to 2047
abbrev pub height_of : Text → Option ℤ
height_of text = option_and_then as_height (whole_of 9 text)

abbrev pub in_front : ℕ → List Text → List Text
in_front b [] = (b ∷ []) ∷ []
in_front b (part ∷ parts) = (b ∷ part) ∷ parts

-- the parts of a text between its commas (44)
abbrev pub parts_of : Text → List Text
parts_of [] = [] ∷ []
parts_of (b ∷ bs) = if b == 44 then [] ∷ parts_of bs else in_front b (parts_of bs)

-- below 2^40 in size
abbrev pub is_in_range : ℤ → Bool
is_in_range z = nat_le (unsigned_abs z) 1099511627775

-- whether the point is valid
abbrev pub is_valid_spot : Spot → Bool
is_valid_spot p = is_in_range p.x &&
    (is_in_range p.y && (is_in_range p.z && (is_in_range p.w && int_lt (pos 0) p.w)))

abbrev pub as_spot : Spot → Option Spot
as_spot p = if is_valid_spot p then Some p else None

abbrev pub spot_of_numbers : Option ℤ → Option ℤ → Option ℤ → Option ℤ → Option Spot
spot_of_numbers (Some x) (Some y) (Some z) (Some w) = as_spot (record { x = x; y = y; z = z; w = w })
spot_of_numbers _ _ _ _ = None

abbrev pub four_of : List Text → Option (Text × Text × Text × Text)
four_of (x ∷ y ∷ z ∷ w ∷ []) = Some (x, y, z, w)
four_of _ = None

abbrev pub spot_of_four : Text × Text × Text × Text → Option Spot
spot_of_four t = spot_of_numbers (whole_of 13 t.0) (whole_of 13 t.1) (whole_of 13 t.2) (whole_of 13 t.3)

-- four whole numbers of up to 13 digits, with commas between them, that are a valid spot
abbrev pub point_of : Text → Option Spot
point_of text = option_and_then spot_of_four (four_of (parts_of text))

-- a text with a byte
abbrev pub nonempty_of : Text → Option Text
nonempty_of [] = None
nonempty_of (b ∷ bs) = Some (b ∷ bs)

-- at most 64 file names, each with a byte
abbrev pub are_names : List Text → Bool
are_names names = nat_le (length names) 64 && list_all (λ name. not (is_empty name)) names

-- the file names, if they are within the limits
abbrev pub names_in_limits : List Text → Option (List Text)
names_in_limits names = if are_names names then Some names else None

-- a flag that was given has the value `true`
abbrev pub is_set : Option Text → Bool
is_set None = false
is_set (Some text) = bytes_eq text (codes "true")

-- the value of an option that may be left out: Some None if it was. Otherwise it must have a byte: Some (Some text), or
-- None if the text is empty
abbrev pub optional_of : Option Text → Option (Option Text)
optional_of None = Some None
optional_of (Some text) = option_map Some (nonempty_of text)
