-- The values of a plane at the points of a unit cube.
use Rattle.std.proofs.Common.{◌≡◌, ℕ, ℤ, pos, ◌+ℤ◌, ◌-ℤ◌, ◌*ℤ◌, neg_ℤ, ◌<ℤ◌, ◌≤ℤ◌, arith}
use borrow.Author.Differences.{ints}
use lib.IntN.{zero-*ℤ}
use Rattle.ember_algebra.specs.Size.{Small}
use Rattle.ember_algebra.proofs.Laws.{linear, neg-*ℤ}
use Rattle.ember_algebra.proofs.Order.{pos_mul, nonneg_mul, mul_neg_pos, mul_le}
use Rattle.ember_algebra.proofs.Ring.{◌⊕◌, ◌⊖◌, ◌⊗◌, ◌≈◌, solve, cancels}
use Rattle.ember_model.specs.declared.plane.Plane.{Plane}
use Rattle.ember_model.specs.Planes.{value_at}
use Rattle.ember_width.specs.declared.floor_point.FloorPoint.{FloorPoint}
use Rattle.ember_width.specs.Broad.{IsRemainder}
use Rattle.ember_width.specs.BroadPoints.{floor_spot}

-- the value at a point, by that at the least corner of its cube
pub value_by_floor : (p : Plane) (m : FloorPoint) → value_at p (floor_spot m)
    ≡ (p.a *ℤ m.floor.x +ℤ p.b *ℤ m.floor.y +ℤ p.c *ℤ m.floor.z -ℤ p.d) *ℤ m.w +ℤ p.a *ℤ m.x +ℤ p.b *ℤ m.y +ℤ p.c *ℤ m.z
value_by_floor p m =
    solve 11 (λ a b c d i j k x y z w. a ⊗ (i ⊗ w ⊕ x) ⊕ b ⊗ (j ⊗ w ⊕ y) ⊕ c ⊗ (k ⊗ w ⊕ z) ⊖ d ⊗ w ≈
    (a ⊗ i ⊕ b ⊗ j ⊕ c ⊗ k ⊖ d) ⊗ w ⊕ a ⊗ x ⊕ b ⊗ y ⊕ c ⊗ z) cancels p.a p.b p.c p.d m.floor.x m.floor.y m.floor.z m.x m.y m.z m.w

-- ---- one entry of the normal
-- a negative entry is least at the far end
pub falling : (a r w : ℤ) → a <ℤ pos 0 → r ≤ℤ w → (a *ℤ w) ≤ℤ (a *ℤ r)
falling a r w l h =
    let n : pos 0 ≤ℤ neg_ℤ a = omega (arith, linear) in
    omega (arith, linear, mul_le n h, neg-*ℤ a r, neg-*ℤ a w)

-- another isn't below 0
pub not_falling : (a r w : ℤ) → pos 0 ≤ℤ a → pos 0 ≤ℤ r → (pos 0 *ℤ w) ≤ℤ (a *ℤ r)
not_falling a r w l h = omega (arith, linear, nonneg_mul l h, zero-*ℤ w)

-- a positive entry is greatest at the far end
pub rising : (a r w : ℤ) → pos 0 <ℤ a → r ≤ℤ w → (a *ℤ r) ≤ℤ (a *ℤ w)
rising a r w l h = let n : pos 0 ≤ℤ a = omega (arith, linear) in mul_le n h

-- another isn't above 0
pub not_rising : (a r w : ℤ) → a ≤ℤ pos 0 → pos 0 ≤ℤ r → (a *ℤ r) ≤ℤ (pos 0 *ℤ w)
not_rising a r w l h =
    let n : pos 0 ≤ℤ neg_ℤ a = omega (arith, linear) in
    omega (arith, linear, nonneg_mul n h, neg-*ℤ a r, zero-*ℤ w)

-- ---- the whole value
-- it is positive if the least value over the cube is
pub in_front : (v a b c x y z w l m n : ℤ) → pos 0 <ℤ w → (l *ℤ w) ≤ℤ (a *ℤ x) → (m *ℤ w) ≤ℤ (b *ℤ y) → (n *ℤ w) ≤ℤ (c *ℤ z) →
    pos 0 <ℤ (v +ℤ l +ℤ m +ℤ n) → pos 0 <ℤ (v *ℤ w +ℤ a *ℤ x +ℤ b *ℤ y +ℤ c *ℤ z)
in_front v a b c x y z w l m n pw p q r s =
    let e = solve 5 (λ v l m n w. (v ⊕ l ⊕ m ⊕ n) ⊗ w ≈ v ⊗ w ⊕ l ⊗ w ⊕ m ⊗ w ⊕ n ⊗ w) cancels v l m n w in
    omega (arith, linear, pos_mul s pw, e, p, q, r)

-- it is negative if the greatest value over the cube is
pub behind : (v a b c x y z w l m n : ℤ) → pos 0 <ℤ w → (a *ℤ x) ≤ℤ (l *ℤ w) → (b *ℤ y) ≤ℤ (m *ℤ w) → (c *ℤ z) ≤ℤ (n *ℤ w) →
    (v +ℤ l +ℤ m +ℤ n) <ℤ pos 0 → (v *ℤ w +ℤ a *ℤ x +ℤ b *ℤ y +ℤ c *ℤ z) <ℤ pos 0
behind v a b c x y z w l m n pw p q r s =
    let e = solve 5 (λ v l m n w. (v ⊕ l ⊕ m ⊕ n) ⊗ w ≈ v ⊗ w ⊕ l ⊗ w ⊕ m ⊗ w ⊕ n ⊗ w) cancels v l m n w in
    omega (arith, linear, mul_neg_pos s pw, e, p, q, r)

-- ---- remainders
-- a remainder is no larger than the weight
pub remainder_small : {n : ℕ} {r w : ℤ} → IsRemainder r w → Small n w → Small n r
remainder_small {n} {r} {w} p s = record { small = omega (arith, ints, p.at_least, p.below, s.small) }

-- nor does it exceed it
pub remainder_within : {r w : ℤ} → IsRemainder r w → r ≤ℤ w
remainder_within {r} {w} p = omega (arith, ints, p.below)
