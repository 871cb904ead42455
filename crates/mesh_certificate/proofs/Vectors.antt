-- Vectors that are 0, parallel, or multiples of one another.
use Rattle.std.proofs.Common.{◌≡◌, ◌≢◌, [], ◌∷◌, ℤ, pos, neg_ℤ, ap, ◌∙◌, arith}
use Rattle.ember_algebra.specs.Vector.{Vector, zero_v, scale_v, dot, cross}
use Rattle.ember_algebra.proofs.Laws.{linear, from_two}
use Rattle.ember_algebra.proofs.Order.{square_nonneg, cancel_eq}
use Rattle.ember_algebra.proofs.Ring.{◌⊕◌, ◌⊖◌, ◌⊗◌, ◌≈◌, num, neg, cancels}
use Rattle.ember_algebra.proofs.Vectors.{VectorE, scalar, vector, identity, vector_identity, ◌≈v◌, cancels_v, same_v, scaleE, dotE, crossE}
use Rattle.ember_algebra.proofs.Numbers.{square_zero}

abbrev pub zeroE : VectorE
zeroE = record { x = num (pos 0); y = num (pos 0); z = num (pos 0) }

-- ---- a vector that is 0
-- a vector whose square is 0 is 0
pub no_square_no_vector : (v : Vector) → dot v v ≡ pos 0 → v ≡ zero_v
no_square_no_vector v e =
    let x = square_nonneg v.x in let y = square_nonneg v.y in let z = square_nonneg v.z in
    same_v (square_zero v.x (omega (arith, linear))) (square_zero v.y (omega (arith, linear))) (square_zero v.z (omega (arith, linear)))

-- ---- multiples
-- equal multiples by a factor that isn't 0 are of equal vectors
pub scale_cancel : (f : ℤ) (u v : Vector) → f ≢ pos 0 → scale_v f u ≡ scale_v f v → u ≡ v
scale_cancel f u v n e =
    same_v (cancel_eq n (ap (λ (v : Vector). v.x) e)) (cancel_eq n (ap (λ (v : Vector). v.y) e)) (cancel_eq n (ap (λ (v : Vector). v.z) e))

-- a vector that has a multiple that isn't 0
pub scale_nonzero : (f : ℤ) (u v : Vector) → f ≢ pos 0 → scale_v f u ≡ v → u ≢ zero_v → v ≢ zero_v
scale_nonzero f u v n e h z = h (scale_cancel f u zero_v n (e ∙ z ∙ vector_identity (scalar ∷ []) (λ f. zeroE ≈v scaleE f zeroE) cancels_v f))

-- ---- parallel vectors
module _ (n m : Vector) (e : cross n m ≡ zero_v) where
  ex : (cross n m).x ≡ pos 0
  ex = ap (λ (v : Vector). v.x) e

  ey : (cross n m).y ≡ pos 0
  ey = ap (λ (v : Vector). v.y) e

  ez : (cross n m).z ≡ pos 0
  ez = ap (λ (v : Vector). v.z) e

  -- m is n times n · m / n · n
  pub parallel_multiple : scale_v (dot n m) n ≡ scale_v (dot n n) m
  parallel_multiple =
      same_v
      (from_two n.y (neg_ℤ n.z) ez ey (identity (vector ∷ vector ∷ [])
      (λ n m. dotE n m ⊗ n.x ⊖ dotE n n ⊗ m.x ≈ n.y ⊗ ((crossE n m).z ⊖ num (pos 0)) ⊕ neg n.z ⊗
      ((crossE n m).y ⊖ num (pos 0))) cancels n m))
      (from_two n.z (neg_ℤ n.x) ex ez (identity (vector ∷ vector ∷ [])
      (λ n m. dotE n m ⊗ n.y ⊖ dotE n n ⊗ m.y ≈ n.z ⊗ ((crossE n m).x ⊖ num (pos 0)) ⊕ neg n.x ⊗
      ((crossE n m).z ⊖ num (pos 0))) cancels n m))
      (from_two n.x (neg_ℤ n.y) ey ex (identity (vector ∷ vector ∷ [])
      (λ n m. dotE n m ⊗ n.z ⊖ dotE n n ⊗ m.z ≈ n.x ⊗ ((crossE n m).y ⊖ num (pos 0)) ⊕ neg n.y ⊗
      ((crossE n m).x ⊖ num (pos 0))) cancels n m))
