-- Moves that aren't below the true ones
use Rattle.std.specs.Prelude.{◌≤◌, ◌<◌, ◌*◌, ◌^◌, ℕ, List, All}
use Rattle.mesh_certificate.specs.declared.certificate.triangle.Triangle.{Triangle}
use Rattle.mesh_number.specs.Number.Fractions.{Fraction}
use Rattle.mesh_number.specs.Float.Binary32.{distance}
use Rattle.mesh_effect.specs.declared.rounding.tick.Tick.{Tick}
use Rattle.mesh_effect.specs.Rounding.Maximum.{greatest_of}
use Rattle.mesh_effect.specs.Rounding.Shown.{Rounded}
use Rattle.mesh_effect.specs.Rounding.Squares.{triangle_square}
use Rattle.mesh_effect.specs.Rounding.Ticks.{ticks_between}

-- the ticks between two numbers aren't below their distance
abbrev pub TicksAreNotBelow : Tick → Type 0
TicksAreNotBelow tick =
    (v w : Fraction) → 0 < v.denominator → 0 < w.denominator → 0 < tick.numerator →
    tick.denominator * distance v.numerator v.denominator w ≤
    v.denominator * w.denominator * tick.numerator * ticks_between tick v w

-- the greatest square of a corner of the triangles
abbrev pub greatest_square : List ℕ → List Triangle → ℕ
greatest_square squares ts = greatest_of (triangle_square squares) ts

-- no triangle has a square above n
abbrev pub AreNotAbove : List ℕ → List Triangle → ℕ → Type 0
AreNotAbove squares ts n = All (λ t. triangle_square squares t ≤ n) ts

-- the square of the shown move isn't below this square, in ticks
abbrev pub IsNotBelow : Tick → ℕ → Rounded → Type 0
IsNotBelow tick square m =
    square * (tick.numerator * 10 ^ m.places * (tick.numerator * 10 ^ m.places)) ≤
    tick.denominator * m.size * (tick.denominator * m.size)
