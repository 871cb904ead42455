-- A corner whose coordinates are each within some ticks of others, as the report counts them, is within the reported
-- length.
use Rattle.std.proofs.Common.{◌≡◌, ap, arith, ℕ, ◌*◌, ◌≤◌, ℤ, pos, negsuc, ◌+ℤ◌, ◌*ℤ◌, ◌<ℤ◌, ◌≤ℤ◌, unsigned_abs, refl, mul-le-mul}
use borrow.Author.Differences.{ints}
use Rattle.ember_algebra.proofs.Laws.{linear}
use Rattle.ember_algebra.proofs.Order.{pos_mul, mul_le, cancel_le, square_nonneg}
use Rattle.ember_algebra.proofs.Ring.{◌⊕◌, ◌⊗◌, ◌≈◌, solve, cancels}
use Rattle.ember_model.specs.declared.point.Spot.{Spot}
use Rattle.ember_model.specs.Points.{displacement}
use Rattle.mesh_tolerance.specs.Distances.{square, IsWithin}

-- ---- whole numbers by their sizes
size_square : (x : ℤ) → pos (unsigned_abs x * unsigned_abs x) ≡ square x
size_square (pos n) = refl
size_square (negsuc n) = refl

-- a bound of a multiple of a number's size, squared
pub squared_bound : (m q t : ℕ) (x : ℤ) → m * unsigned_abs x ≤ q * t →
    (square (pos m) *ℤ square x) ≤ℤ (square (pos q) *ℤ square (pos t))
squared_bound m q t x h =
    let s = mul-le-mul h h in
    let a : m * unsigned_abs x * (m * unsigned_abs x) ≡ m * m * (unsigned_abs x * unsigned_abs x) = omega arith in
    let b : q * t * (q * t) ≡ q * q * (t * t) = omega arith in
    let l : m * m * (unsigned_abs x * unsigned_abs x) ≤ q * q * (t * t) = omega (arith, s, a, b) in
    let e = ap (λ (z : ℤ). square (pos m) *ℤ z) (size_square x) in
    omega (arith, ints, l, e)

-- ---- three axes
-- m ticks are n units, and the length is size / unit. Along each axis the move is x / v, in units times u and v, and at
-- most t ticks; n' is the sum of the squares of the ticks
module _ (m n size unit : ℕ) (u v x y z : ℤ) (r s t : ℕ) (pm : pos 0 <ℤ pos m)
    (bx : (square (pos m) *ℤ square x) ≤ℤ (square (u *ℤ v *ℤ pos n) *ℤ square (pos r)))
    (by : (square (pos m) *ℤ square y) ≤ℤ (square (u *ℤ v *ℤ pos n) *ℤ square (pos s)))
    (bz : (square (pos m) *ℤ square z) ≤ℤ (square (u *ℤ v *ℤ pos n) *ℤ square (pos t)))
    (shown : ((square (pos r) +ℤ square (pos s) +ℤ square (pos t)) *ℤ square (pos n *ℤ pos unit)) ≤ℤ square (pos m *ℤ pos size)) where
  pub move_is_within : (square (pos unit) *ℤ (x *ℤ x +ℤ y *ℤ y +ℤ z *ℤ z)) ≤ℤ square (u *ℤ v *ℤ pos size)
  move_is_within =
      let w = square_nonneg (pos unit) in
      let a = mul_le w bx in let b = mul_le w by in let c = mul_le w bz in
      let d = mul_le (square_nonneg (u *ℤ v)) shown in
      cancel_le (pos_mul pm pm) (omega (
        arith,
        linear,
        a,
        b,
        c,
        d,
        solve 5 (λ m p x y z. (m ⊗ m) ⊗ ((p ⊗ p) ⊗ (x ⊗ x ⊕ y ⊗ y ⊕ z ⊗ z)) ≈ (p ⊗ p) ⊗ ((m ⊗ m) ⊗ (x ⊗ x)) ⊕
            (p ⊗ p) ⊗ ((m ⊗ m) ⊗ (y ⊗ y)) ⊕ (p ⊗ p) ⊗ ((m ⊗ m) ⊗ (z ⊗ z))) cancels (pos m) (pos unit) x y z,
        solve 7 (λ p u v n r s t. (p ⊗ p) ⊗ (((u ⊗ v ⊗ n) ⊗ (u ⊗ v ⊗ n)) ⊗ (r ⊗ r)) ⊕ (p ⊗ p) ⊗
            (((u ⊗ v ⊗ n) ⊗ (u ⊗ v ⊗ n)) ⊗ (s ⊗ s)) ⊕ (p ⊗ p) ⊗ (((u ⊗ v ⊗ n) ⊗ (u ⊗ v ⊗ n)) ⊗ (t ⊗ t)) ≈
            ((u ⊗ v) ⊗ (u ⊗ v)) ⊗ ((r ⊗ r ⊕ s ⊗ s ⊕ t ⊗ t) ⊗ ((n ⊗ p) ⊗ (n ⊗ p)))) cancels (pos unit) u v (pos n) (pos r)
            (pos s) (pos t),
        solve 4 (λ m u v s. ((u ⊗ v) ⊗ (u ⊗ v)) ⊗ ((m ⊗ s) ⊗ (m ⊗ s)) ≈ (m ⊗ m) ⊗ ((u ⊗ v ⊗ s) ⊗ (u ⊗ v ⊗ s))) cancels
            (pos m) u v (pos size),
      ))

-- ---- corners
-- the square of how far v is from u along an axis, x times both weights, is at most that of r ticks
abbrev pub IsWithinTicks : ℕ → ℕ → Spot → Spot → ℕ → ℤ → Type 0
IsWithinTicks m n u v r x = (square (pos m) *ℤ square x) ≤ℤ (square (u.w *ℤ v.w *ℤ pos n) *ℤ square (pos r))

-- a corner that moves by at most so many ticks along each axis is within the length that is shown
pub corner_is_within : (m n size unit : ℕ) (u v : Spot) (r s t : ℕ) → pos 0 <ℤ pos m →
    IsWithinTicks m n u v r (displacement u v).x → IsWithinTicks m n u v s (displacement u v).y →
    IsWithinTicks m n u v t (displacement u v).z →
    ((square (pos r) +ℤ square (pos s) +ℤ square (pos t)) *ℤ square (pos n *ℤ pos unit)) ≤ℤ
    square (pos m *ℤ pos size) → IsWithin size unit u v
corner_is_within m n size unit u v r s t pm x y z shown = record {
  within =
      move_is_within m n size unit u.w v.w (displacement u v).x (displacement u v).y (displacement u v).z r s t pm x y z
      shown;
}
