-- The steps that decimals spell
use Rattle.std.specs.Prelude.{◌≡◌, ◌≤◌, ◌⊎◌, ℕ, ◌*◌, ◌%◌, ◌^◌, ℤ, pos, neg_ℤ, ◌*ℤ◌, List, Some}
use Rattle.mesh_number.specs.Number.Fractions.{Fraction}
use Rattle.mesh_number.specs.Number.Texts.{value_of_text}
use Rattle.mesh_grid.specs.declared.snap.steps.GridStep.{GridStep}
use Rattle.mesh_grid.specs.Snap.Steps.{IsStep}

-- the step is in range, and its denominator is a power of ten up to 10^12
pub record IsDecimalStep (s : GridStep) : Type 0 where
  pub step : IsStep s
  pub places : ℕ
  pub few : places ≤ 12
  pub denominator : s.denominator ≡ 10 ^ places

-- the text is a decimal, and this step is its value
pub record IsStepOf (text : List ℕ) (s : GridStep) : Type 0 where
  pub step : IsDecimalStep s
  pub value : Fraction
  pub spells : value_of_text text ≡ Some value
  pub same : (value.numerator *ℤ pos s.denominator) ≡ pos (s.numerator * value.denominator)

-- no other step of the text has a smaller numerator
pub record IsLeastStepOf (text : List ℕ) (s : GridStep) : Type 0 where
  pub of_text : IsStepOf text s
  pub least : (other : GridStep) → IsStepOf text other → s.numerator ≤ other.numerator

-- ---- in trillionths
abbrev pub negated : Fraction → Fraction
negated v = record { numerator = neg_ℤ v.numerator; denominator = v.denominator }

-- the number times this factor is this whole number
abbrev pub IsMultiple : ℕ → Fraction → ℤ → Type 0
IsMultiple factor v z = (pos factor *ℤ v.numerator) ≡ (z *ℤ pos v.denominator)

-- the step is so many trillionths
pub record IsStepOfTrillionths (trillionths : ℕ) (s : GridStep) : Type 0 where
  pub step : IsDecimalStep s
  pub same : s.numerator * 10 ^ 12 ≡ trillionths * s.denominator

-- the number has no zero at its end, or there is no place left
abbrev pub IsReduced : ℕ → ℕ → Type 0
IsReduced number places = (places ≡ 0) ⊎ (¬ (number % 10 ≡ 0))
