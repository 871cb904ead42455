-- How many decimal places are written
use Rattle.std.specs.Prelude.{ℕ, zero, suc, ◌+◌, ◌*◌, ◌%◌, Option, Some, None}
use Rattle.mesh_grid.specs.declared.snap.steps.GridStep.{GridStep}

-- the decimal places of rest / d, at most so many
abbrev pub places_of_rest : ℕ → ℕ → ℕ → ℕ
places_of_rest d zero rest = 0
places_of_rest d (suc most) zero = 0
places_of_rest d (suc most) (suc n) = 1 + places_of_rest d most (suc n * 10 % d)

-- the decimal places of a step, at most 11
abbrev pub step_places : GridStep → ℕ
step_places s = places_of_rest s.denominator 11 (s.numerator % s.denominator)

-- six places more, unless a number of places is given
abbrev pub written_places : Option ℕ → GridStep → ℕ
written_places (Some digits) s = digits
written_places None s = step_places s + 6
