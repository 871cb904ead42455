-- The whole numbers next to a fraction
use Rattle.std.proofs.Common.{◌≡◌, ◌≢◌, ◌↔◌, arith, ℤ, pos, ◌+ℤ◌, ◌*ℤ◌, ◌<ℤ◌, ◌≤ℤ◌, SFits, to_z, of_z, to_z-of_z, sym, ap, subst, ◌∙◌}
use Rattle.std.proofs.lemmas.Int.{ints}
use mir.Syntax.{w32, w64, w128}
use Rattle.ember_algebra.proofs.Exact.{input, stored, kept, ◌&◌, done, exact}
use Rattle.ember_algebra.proofs.Size.{small_of_fits}
use Rattle.ember_algebra.proofs.Laws.{linear, *ℤ-+ℤ}
use Rattle.ember_algebra.proofs.Order.{mul_le, cancel_lt, cancel_le}
use Rattle.ember_algebra.proofs.Ring.{◌⊗◌, ◌≈◌, solve, cancels}
use Rattle.ember_width.specs.Broad.{IsRemainder}
use Rattle.ember_width.proofs.CubeValues.{remainder_small}
use Rattle.mesh_point.specs.declared.coordinate.Coordinate.{Coordinate}
use Rattle.mesh_point.specs.Orders.{numerator}

-- a whole number is at most the floor exactly if it is at most the fraction
pub floor_exact : (i r w z : ℤ) → pos 0 <ℤ w → IsRemainder r w → (z ≤ℤ i) ↔ ((w *ℤ z) ≤ℤ (i *ℤ w +ℤ r))
floor_exact i r w z l f =
    let e = solve 2 (λ i w. i ⊗ w ≈ w ⊗ i) cancels i w in (
      λ h. let n : pos 0 ≤ℤ w = omega (arith, linear) in omega (arith, linear, mul_le n h, f.at_least, e),
      λ h. let k : (w *ℤ z) <ℤ (w *ℤ (i +ℤ pos 1)) = omega (arith, linear, *ℤ-+ℤ w i (pos 1), f.below, h, e) in
          omega (arith, linear, cancel_lt l k),
    )

-- and at least the next one exactly if it is at least the fraction, where that isn't whole
pub next_exact : (i r w z : ℤ) → pos 0 <ℤ w → IsRemainder r w → r ≢ pos 0 → ((i +ℤ pos 1) ≤ℤ z) ↔ ((i *ℤ w +ℤ r) ≤ℤ (w *ℤ z))
next_exact i r w z l f n =
    let e = solve 2 (λ i w. i ⊗ w ≈ w ⊗ i) cancels i w in let p : pos 0 <ℤ r = omega (arith, ints, f.at_least, n) in (
      λ h. let m : pos 0 ≤ℤ w = omega (arith, linear) in omega (arith, linear, mul_le m h, *ℤ-+ℤ w i (pos 1), f.below, e),
      λ h. let k : (w *ℤ i) <ℤ (w *ℤ z) = omega (arith, linear, p, h, e) in let j = cancel_lt l k in omega (arith, ints, j),
    )

-- a whole fraction is its own floor
pub whole_exact : (i r w z : ℤ) → pos 0 <ℤ w → r ≡ pos 0 → (i ≤ℤ z) ↔ ((i *ℤ w +ℤ r) ≤ℤ (w *ℤ z))
whole_exact i r w z l n =
    let e = solve 2 (λ i w. i ⊗ w ≈ w ⊗ i) cancels i w in (
      λ h. let m : pos 0 ≤ℤ w = omega (arith, linear) in omega (arith, linear, mul_le m h, n, e),
      λ h. let k : (w *ℤ i) ≤ℤ (w *ℤ z) = omega (arith, linear, n, h, e) in cancel_le l k,
    )

-- ---- coordinates
module _ (c : Coordinate) {n w : ℤ} (v : c.weight ≡ w) (e : numerator c ≡ n) (r z : ℤ) where
  -- the floor of a coordinate, by its value and its weight
  pub floor_is_exact : r ≡ c.floor → (z ≤ℤ r) ↔ ((w *ℤ z) ≤ℤ n)
  floor_is_exact f =
      subst (λ (A : Type 0). A) (λ i. (z ≤ℤ sym f i) ↔ ((v i *ℤ z) ≤ℤ e i)) (floor_exact c.floor c.rest c.weight z c.valid.positive c.valid.rest)

  -- and its ceiling, where it is whole
  pub whole_is_exact : c.rest ≡ pos 0 → r ≡ c.floor → (r ≤ℤ z) ↔ (n ≤ℤ (w *ℤ z))
  whole_is_exact o f =
      subst (λ (A : Type 0). A) (λ i. (sym f i ≤ℤ z) ↔ (e i ≤ℤ (v i *ℤ z))) (whole_exact c.floor c.rest c.weight z c.valid.positive o)

  -- and where it isn't
  pub next_is_exact : c.rest ≢ pos 0 → r ≡ c.floor +ℤ pos 1 → (r ≤ℤ z) ↔ (n ≤ℤ (w *ℤ z))
  next_is_exact o f =
      subst (λ (A : Type 0). A) (λ i. (sym f i ≤ℤ z) ↔ (e i ≤ℤ (v i *ℤ z)))
      (next_exact c.floor c.rest c.weight z c.valid.positive c.valid.rest o)

-- ---- as code reads them
-- a floor stays the same when it is cast to 64 bits
pub floor_in_64 : {z : ℤ} → SFits w32 z → to_z w64 (of_z w64 (to_z w32 (of_z w32 z))) ≡ z
floor_in_64 f = rw (to_z-of_z f) (exact (small_of_fits w32 f & done) (stored w64 (input 0)) tt)

-- the test of a remainder
pub rest_is_zero : (c : Coordinate) → of_z w128 c.rest ≡ 0 → c.rest ≡ pos 0
rest_is_zero c h =
    sym (exact (remainder_small c.valid.rest c.valid.weight & done) (kept 0) tt) ∙ ap (λ (n : _). to_z w128 n) h

pub rest_is_nonzero : (c : Coordinate) → (of_z w128 c.rest ≡ 0 → ⊥) → c.rest ≢ pos 0
rest_is_nonzero c n e = n (ap (λ (z : ℤ). of_z w128 z) e)
