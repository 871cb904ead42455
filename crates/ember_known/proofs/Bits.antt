-- A mesh more in a set of meshes.
use Rattle.std.proofs.Common.{◌≡◌, ℕ, ◌-◌, ◌^◌, ◌≤◌, ◌==◌, ◌||◌, true, false, ◌⊎◌, inl, inr, bit_or, max, ap, ◌∙◌, arith}
use Rattle.std.proofs.lemmas.Bool.Decides.{eqb_tells}
use Rattle.std.specs.Int.{bit_at}
use Rattle.std.proofs.lemmas.Nat.Bits.{bit_at_or, bit_at-pow_same, bit_at-pow_other, bit_at-lt}
use Rattle.ember_expr.specs.Formula.{IsMeshNumber}
use Rattle.ember_known.specs.Masks.{is_in}

set_now : (b p : ℕ) → b ≤ 1 → p ≡ 1 → (max b p == 1) ≡ true
set_now b p small one = ap (λ m. m == 1) (let e : max b p ≡ 1 = omega arith in e)

set_before : (b p : ℕ) → p ≡ 0 → (max b p == 1) ≡ (b == 1)
set_before b p none = ap (λ m. m == 1) (let e : max b p ≡ b = omega arith in e)

-- a set with one mesh more has this mesh and those that it had
pub in_with : (mask mesh n : ℕ) → IsMeshNumber 64 mesh → IsMeshNumber 64 n → is_in (bit_or mask (2 ^ (mesh - 1))) n ≡ (n == mesh || is_in mask n)
in_with mask mesh n f g = ap (λ b. b == 1) (bit_at_or mask (2 ^ (mesh - 1)) (n - 1)) ∙ at (eqb_tells n mesh) where
  at : (((n == mesh) ≡ true) × (n ≡ mesh)) ⊎ (((n == mesh) ≡ false) × (n ≡ mesh → ⊥)) →
      (max (bit_at mask (n - 1)) (bit_at (2 ^ (mesh - 1)) (n - 1)) == 1) ≡ (n == mesh || is_in mask n)
  at (inl same) = rw same.0 (set_now (bit_at mask (n - 1)) (bit_at (2 ^ (mesh - 1)) (n - 1))
      (omega (arith, bit_at-lt mask (n - 1))) (ap (λ k. bit_at (2 ^ (mesh - 1)) (k - 1)) same.1
      ∙ bit_at-pow_same (mesh - 1)))
  at (inr other) = rw other.0 (set_before (bit_at mask (n - 1)) (bit_at (2 ^ (mesh - 1)) (n - 1))
      (bit_at-pow_other (mesh - 1) (n - 1) (λ e. other.1 (omega (arith, e, f.first, g.first)))))
