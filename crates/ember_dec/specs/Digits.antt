-- Decimal digits
use Rattle.std.specs.Prelude.{ℕ, ◌+◌, ◌-◌, ◌*◌, if◌then◌else◌, List, [], ◌∷◌}
use Rattle.std.specs.Char.{is_ascii_digit}

-- `start` followed by these decimal digits, as a number
abbrev pub number_from : ℕ → List ℕ → ℕ
number_from start [] = start
number_from start (d ∷ ds) = number_from (start * 10 + (d - 48)) ds

-- the decimal digits before the first other byte, and from it on
abbrev pub digits_of : List ℕ → List ℕ
digits_of [] = []
digits_of (b ∷ bs) = if is_ascii_digit b then b ∷ digits_of bs else []

abbrev pub behind_digits : List ℕ → List ℕ
behind_digits [] = []
behind_digits (b ∷ bs) = if is_ascii_digit b then behind_digits bs else b ∷ bs
