-- Ratios as fractions.
use Rattle.std.proofs.Common.{◌≡◌, ℕ, ◌-◌, ◌*◌, ◌^◌, ◌≤◌, Option, None, subst, sym}
use Rattle.std.specs.Prelude.{◌↔◌, IfSome}
use Rattle.mesh_number.specs.Number.Fractions.{Fraction}
use Rattle.ember_wide.specs.Whole.{size_of, value_of}
use Rattle.ember_wide.proofs.Values.{size_of_value}
use Rattle.mesh_number.specs.Float.Binary32.{IsNearestBinary32}
use Rattle.mesh_written.specs.declared.ratio.Ratio.{Ratio}
use Rattle.mesh_written.specs.Places.{fraction_of}
use Rattle.mesh_written.specs.Floats.{IsFloatOf, IsInfinite}

-- a ratio that is this fraction is as large
pub infinite_of : (r : Ratio) (v : Fraction) (o : Option ℕ) → fraction_of r ≡ v →
    (o ≡ None ↔ (2 ^ 128 - 2 ^ 103) * r.denominator ≤ size_of r.numerator.size) → (o ≡ None ↔ IsInfinite v)
infinite_of r v o e h =
    subst (λ (w : Fraction). o ≡ None ↔ IsInfinite w) e
    (subst (λ (k : ℕ). o ≡ None ↔ (2 ^ 128 - 2 ^ 103) * r.denominator ≤ k) (sym (size_of_value r.numerator)) h)

-- and has the same nearest float
pub nearest_of : (r : Ratio) (v : Fraction) (o : Option ℕ) → fraction_of r ≡ v →
    IfSome o (λ bits. IsNearestBinary32 (value_of r.numerator) r.denominator bits) → IfSome o (IsFloatOf v)
nearest_of r v o e h = subst (λ (w : Fraction). IfSome o (IsFloatOf w)) e h
