-- The text of a whole number whose point is moved to the left
use Rattle.std.specs.Prelude.{ℕ, zero, suc, ◌+◌, ◌/◌, ◌%◌, ◌^◌, Bool, ◌&&◌, nat_lt, ◌==◌, if◌then◌else◌}
use Rattle.std.specs.Prelude.{List, [], ◌∷◌, ◌++◌, decimal}

-- a minus before what is below 0
abbrev pub sign_text : Bool → ℕ → List ℕ
sign_text negative size = if negative && nat_lt 0 size then 45 ∷ [] else []

-- the digits of part / 10 ^ places after the point, as long as anything is left
abbrev pub fraction_digits : ℕ → ℕ → List ℕ
fraction_digits zero part = []
fraction_digits (suc places) zero = []
fraction_digits (suc places) (suc n) = (48 + suc n / 10 ^ places) ∷ fraction_digits places (suc n % 10 ^ places)

-- and with the point, if there are digits after it
abbrev pub fraction_text : ℕ → ℕ → List ℕ
fraction_text places part = if part == 0 then [] else 46 ∷ fraction_digits places part

-- size / 10 ^ places
abbrev pub decimal_text : Bool → ℕ → ℕ → List ℕ
decimal_text negative size places =
    sign_text negative size ++ (decimal (size / 10 ^ places) ++ fraction_text places (size % 10 ^ places))
