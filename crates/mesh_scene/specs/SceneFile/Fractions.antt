-- Steps as fractions
use Rattle.std.specs.Prelude.{◌≡◌, ℕ, ◌*◌, ◌^◌, ◌<◌, List, ◌++◌, codes, decimal}
use Rattle.std.specs.Int.{IsGcd}
use Rattle.mesh_grid.specs.declared.snap.steps.GridStep.{GridStep}
use Rattle.mesh_grid.specs.Snap.Steps.{IsStep}

-- `n/d`
abbrev pub fraction_text : GridStep → List ℕ
fraction_text s = decimal s.numerator ++ (codes "/" ++ decimal s.denominator)

-- the text spells n, which is in the range of a numerator and of a denominator
pub record IsPart (text : List ℕ) (n : ℕ) : Type 0 where
  pub positive : 0 < n
  pub small : n < 2 ^ 40
  pub spells : text ≡ decimal n

-- the text spells the step, which is in range
pub record IsStepText (text : List ℕ) (s : GridStep) : Type 0 where
  pub step : IsStep s
  pub spells : text ≡ fraction_text s

-- the same fraction, whose numerator and denominator have no common divisor but 1
pub record IsInLowestTerms (s lowest : GridStep) : Type 0 where
  pub step : IsStep lowest
  pub same : s.numerator * lowest.denominator ≡ lowest.numerator * s.denominator
  pub coprime : IsGcd lowest.numerator lowest.denominator 1
