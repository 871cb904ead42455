-- Sines and cosines to twenty places
use Rattle.std.specs.Prelude.{◌≡◌, ℕ, zero, suc, ◌+◌, ◌-◌, ◌*◌, ◌/◌, ◌%◌, ◌^◌, ◌≤◌, nat_le, Bool, true, false}
use Rattle.std.specs.Prelude.{ℤ, pos, neg_ℤ, ◌-ℤ◌, ◌*ℤ◌, unsigned_abs}
use Rattle.mesh_number.specs.Number.Fractions.{Fraction}
use Rattle.mesh_place.specs.declared.maps.directions.Direction as code
use Rattle.mesh_place.specs.Integers.{integer_of}

-- 1 - v / (k (k + 1)) (1 - v / ((k + 2) (k + 3)) (1 - ..)), with so many brackets, where v is over / under
abbrev pub series : ℕ → ℕ → ℕ → ℕ → Fraction
series zero k over under = record { numerator = pos 1; denominator = 1 }
series (suc brackets) k over under =
    let inner = series brackets (k + 2) over under in
    let whole = k * (k + 1) * under * inner.denominator in
    record { numerator = pos whole -ℤ pos over *ℤ inner.numerator; denominator = whole }

-- ---- Taylor's polynomials, of the angle over / under in radians
-- of the cosine, up to the power 26
unfoldable pub cosine_of : ℕ → ℕ → Fraction
cosine_of over under = series 13 1 (over * over) (under * under)

-- of the sine, up to the power 27
unfoldable pub sine_of : ℕ → ℕ → Fraction
sine_of over under =
    let inner = series 13 2 (over * over) (under * under) in
    record { numerator = pos over *ℤ inner.numerator; denominator = under * inner.denominator }

-- n is a whole number nearest to a number times 10^20
pub record IsNearestUnits (v : Fraction) (n : ℤ) : Type 0 where
  pub near : 2 * unsigned_abs (n *ℤ pos v.denominator -ℤ v.numerator *ℤ pos (10 ^ 20)) ≤ v.denominator

-- π to 38 places, in units of 10^-38
abbrev pub pi : ℕ
pi = 314159265358979323846264338327950288420

-- ---- directions
-- cosine and sine in units of 10^-20
pub record Direction : Type 0 where
  pub cosine : ℤ
  pub sine : ℤ

-- of the angle that is part / whole of a right angle: π / 2 times that in radians
pub record IsFlatDirection (part whole : ℕ) (d : Direction) : Type 0 where
  pub cosine : IsNearestUnits (cosine_of (pi * part) (2 * 10 ^ 38 * whole)) d.cosine
  pub sine : IsNearestUnits (sine_of (pi * part) (2 * 10 ^ 38 * whole)) d.sine

-- the direction mirrored in the diagonal
abbrev pub mirrored : Direction → Direction
mirrored d = record { cosine = d.sine; sine = d.cosine }

-- a quarter of a turn further
abbrev pub quarter_further : Direction → Direction
quarter_further d = record { cosine = neg_ℤ d.sine; sine = d.cosine }

abbrev pub quarters_further : ℕ → Direction → Direction
quarters_further zero d = d
quarters_further (suc n) d = quarter_further (quarters_further n d)

abbrev pub IsSteepOrFlatIf : Bool → ℕ → ℕ → Direction → Type 0
IsSteepOrFlatIf true part whole d = IsFlatDirection part whole d
IsSteepOrFlatIf false part whole d = IsFlatDirection (whole - part) whole (mirrored d)

-- of the angle that is part / whole of a right angle: if that is more than its half, by the other angle
abbrev pub IsSteepOrFlat : ℕ → ℕ → Direction → Type 0
IsSteepOrFlat part whole d = IsSteepOrFlatIf (nat_le (2 * part) whole) part whole d

-- of the angle that is part / whole of a full turn
pub record IsDirection (part whole : ℕ) (d : Direction) : Type 0 where
  pub within : Direction
  pub first : IsSteepOrFlat (4 * part % whole) whole within
  pub further : d ≡ quarters_further (4 * part / whole) within

abbrev pub direction_of : code.Direction → Direction
direction_of d = record { cosine = integer_of d.cosine; sine = integer_of d.sine }
