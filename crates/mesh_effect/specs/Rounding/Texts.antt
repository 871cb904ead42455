-- Moves as text
use Rattle.std.specs.Prelude.{ℕ, ◌+◌, ◌-◌, ◌*◌, ◌/◌, ◌%◌, ◌^◌, nat_le, ◌==◌, false, if◌then◌else◌, List}
use Rattle.std.specs.Prelude.{[], ◌∷◌, ◌++◌, length, decimal}
use Rattle.mesh_number.specs.Round.Decimals.{decimal_text}
use Rattle.mesh_effect.specs.Rounding.Shown.{Rounded}

abbrev pub two_digits : ℕ → List ℕ
two_digits n = (48 + n / 10) ∷ (48 + n % 10) ∷ []

-- one digit before the point, and by how many places the point is moved
abbrev pub exponent_text : ℕ → ℕ → List ℕ
exponent_text size places =
    let behind = length (decimal size) - 1 in
    decimal_text false size behind ++ 101 ∷ 45 ∷ two_digits (places - behind)

-- with an exponent if the move is below 10^-4, and not 0
abbrev pub move_text : Rounded → List ℕ
move_text m =
    if m.size == 0 then 48 ∷ []
    else (if nat_le (10 ^ m.places) (10 ^ 4 * m.size) then decimal_text false m.size m.places
    else exponent_text m.size m.places)
