-- The value of an expression where no mesh winds doesn't depend on how many meshes there are.
use Rattle.std.proofs.Common.{◌≡◌, ℕ, zero, suc, ◌-◌, ◌==◌, ℤ, pos, ◌+ℤ◌, ◌*ℤ◌, Bool, List, [], ◌∷◌, slice_index_or, replicate, refl, sym, ap, ap₂, ◌∙◌}
use Rattle.std.specs.Prelude.{not, ◌&&◌, ◌||◌, int_le, if◌then◌else◌}
use Rattle.ember_expr.specs.declared.trees.Term.{Term}
use Rattle.ember_expr.specs.Formula.{Formula, Or, Xor, And, Not, Mesh, Odd, Compare}
use Rattle.ember_expr.specs.Truth.{count_of, differ, holds_between, is_odd, signed, sum_from, truth, term_value}

zero_at : (n i : ℕ) → slice_index_or (replicate n (pos 0)) i (pos 0) ≡ pos 0
zero_at zero i = refl
zero_at (suc n) zero = refl
zero_at (suc n) (suc i) = zero_at n i

module _ (n m : ℕ) where
  abbrev here : List ℤ
  here = replicate n (pos 0)

  abbrev there : List ℤ
  there = replicate m (pos 0)

  count_same : (k : ℕ) → count_of here k ≡ count_of there k
  count_same k = zero_at n (k - 1) ∙ sym (zero_at m (k - 1))

  value_same : (t : Term) → term_value here t ≡ term_value there t
  value_same t = ap (λ (z : ℤ). signed t.minus (pos t.factor *ℤ (if t.mesh == 0 then pos 1 else z))) (count_same t.mesh)

  sum_same : (start : ℤ) (ts : List Term) → sum_from start here ts ≡ sum_from start there ts
  sum_same start [] = refl
  sum_same start (t ∷ ts) = ap (λ (z : ℤ). sum_from (start +ℤ z) here ts) (value_same t) ∙ sum_same (start +ℤ term_value there t) ts

  -- an expression has one value at two lists of zeros
  pub zero_same : (f : Formula) → truth here f ≡ truth there f
  zero_same (Or a b) = ap₂ (λ (x y : Bool). x || y) (zero_same a) (zero_same b)
  zero_same (Xor a b) = ap₂ differ (zero_same a) (zero_same b)
  zero_same (And a b) = ap₂ (λ (x y : Bool). x && y) (zero_same a) (zero_same b)
  zero_same (Not a) = ap not (zero_same a)
  zero_same (Mesh k) = ap (int_le (pos 1)) (count_same k)
  zero_same (Odd sum) = ap is_odd (sum_same (pos 0) sum)
  zero_same (Compare left rel right) = ap₂ (holds_between rel) (sum_same (pos 0) left) (sum_same (pos 0) right)
