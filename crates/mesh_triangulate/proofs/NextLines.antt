-- Lines of diagonals
use Rattle.std.proofs.Common.{◌≡◌, ℕ, cond, Option, Some, refl, ◌∙◌, eqb}
use Rattle.std.proofs.lemmas.Bool.{eq-eqb, ne_eqb}

module _ (before after : ℕ → Option ℕ) (key line : ℕ) (put : (q : ℕ) → after q ≡ cond (eqb key q) (Some line) (before q)) where
  -- the key has the line that was put there
  pub put_at_key : (q : ℕ) → key ≡ q → after q ≡ Some line
  put_at_key q e = put q ∙ rw (eq-eqb key q e) refl

  -- the other keys have the lines that they had
  pub put_elsewhere : (q : ℕ) → (key ≡ q → ⊥) → after q ≡ before q
  put_elsewhere q ne = put q ∙ rw (ne_eqb key q ne) refl
