-- The order of points along a line.
use Rattle.std.proofs.Common.{◌≡◌, ◌∙◌, refl, sym, arith, ℤ, pos, ◌-ℤ◌, ◌*ℤ◌, ◌<ℤ◌, ◌≤ℤ◌, Bool, true, false, ◌&&◌}
use Rattle.ember_algebra.proofs.Laws.{linear, expand}
use Rattle.ember_algebra.proofs.Ring.{num, ◌⊖◌, ◌⊗◌, ◌≈◌, solve, cancels}
use Rattle.ember_algebra.proofs.Order.{mul_lt, mul_le, cancel_lt}
use Rattle.ember_model.specs.declared.plane.Plane.{Plane}
use Rattle.ember_model.specs.declared.point.Spot.{Spot}
use Rattle.ember_model.proofs.SignTests.{negative_in, negative_out}
use Rattle.ember_slice.specs.Lines.{IsFlat, along_line, ahead, is_before}
use Rattle.ember_slice.proofs.Along.{ahead_turned}

-- ---- fractions
-- of three points, with the first not after the second and the second before the third, the first is before the third
pub weak_first : (a b c u v w : ℤ) → pos 0 <ℤ u → pos 0 <ℤ v → pos 0 <ℤ w → (v *ℤ a -ℤ u *ℤ b) ≤ℤ pos 0 →
    (w *ℤ b -ℤ v *ℤ c) <ℤ pos 0 → (w *ℤ a -ℤ u *ℤ c) <ℤ pos 0
weak_first a b c u v w pu pv pw h k =
    let l : (v *ℤ a) ≤ℤ (u *ℤ b) = omega (arith, linear, h) in
    let m : (w *ℤ b) <ℤ (v *ℤ c) = omega (arith, linear, k) in
    let s : pos 0 ≤ℤ w = omega (arith, linear, pw) in
    let t : (w *ℤ a) <ℤ (u *ℤ c) = cancel_lt pv (simp expand (omega (arith, linear, simp expand at (mul_le s l), simp expand at (mul_lt pu m)))) in
    omega (arith, linear, t)

weak_last : (a b c u v w : ℤ) → pos 0 <ℤ u → pos 0 <ℤ v → pos 0 <ℤ w → (v *ℤ a -ℤ u *ℤ b) <ℤ pos 0 → (w *ℤ b -ℤ v *ℤ c) ≤ℤ pos 0 → (w *ℤ a -ℤ u *ℤ c) <ℤ pos 0
weak_last a b c u v w pu pv pw h k =
    let l : (v *ℤ a) <ℤ (u *ℤ b) = omega (arith, linear, h) in
    let m : (w *ℤ b) ≤ℤ (v *ℤ c) = omega (arith, linear, k) in
    let s : pos 0 ≤ℤ u = omega (arith, linear, pu) in
    let t : (w *ℤ a) <ℤ (u *ℤ c) = cancel_lt pv (simp expand (omega (arith, linear, simp expand at (mul_lt pw l), simp expand at (mul_le s m)))) in
    omega (arith, linear, t)

-- ---- points
module _ (n : Plane) (u v w : Spot) (pu : pos 0 <ℤ u.w) (pv : pos 0 <ℤ v.w) (pw : pos 0 <ℤ w.w) where
  -- one point not after a second, and the second before a third: the first is before the third
  pub not_after_then : ahead n u v ≤ℤ pos 0 → ahead n v w <ℤ pos 0 → ahead n u w <ℤ pos 0
  not_after_then h k = weak_first (along_line n u) (along_line n v) (along_line n w) u.w v.w w.w pu pv pw h k

  -- one point before a second, and the second not after a third: the first is before the third
  pub then_not_after : ahead n u v <ℤ pos 0 → ahead n v w ≤ℤ pos 0 → ahead n u w <ℤ pos 0
  then_not_after h k = weak_last (along_line n u) (along_line n v) (along_line n w) u.w v.w w.w pu pv pw h k

  pub before_trans : is_before n u v ≡ true → is_before n v w ≡ true → is_before n u w ≡ true
  before_trans h k =
      let l = negative_out (ahead n u v) h in
      negative_in (not_after_then (omega (arith, linear, l)) (negative_out (ahead n v w) k))

-- what implies the other test leaves the other one out
implied : (a b : Bool) → (b ≡ true → a ≡ true) → a && b ≡ b
implied true b f = refl
implied false true f = f refl
implied false false f = refl

-- `a && b` is b if b implies a
pub absorbs_first : (a b : Bool) → (b ≡ true → a ≡ true) → b ≡ a && b
absorbs_first a b f = sym (implied a b f)

-- ---- two points
-- of two points not both are before the other
pub not_both : (n : Plane) (u v : Spot) → is_before n u v ≡ true → is_before n v u ≡ true → ⊥
not_both n u v h k =
    omega (arith, linear, negative_out (ahead n u v) h, negative_out (ahead n v u) k, ahead_turned n u v)

-- a flat plane has no order
pub tilted : (n : Plane) (u v : Spot) → is_before n u v ≡ true → IsFlat n → ⊥
tilted n u v h t =
    let e : ahead n u v ≡ pos 0 = (λ i. v.w *ℤ (t.0 i *ℤ u.y -ℤ t.1 i *ℤ u.x) -ℤ u.w *ℤ (t.0 i *ℤ v.y -ℤ t.1 i *ℤ v.x))
    ∙ solve 6 (λ a b x y z q. a ⊗ (num (pos 0) ⊗ x ⊖ num (pos 0) ⊗ y) ⊖ b ⊗ (num (pos 0) ⊗ z ⊖ num (pos 0) ⊗ q) ≈ num
    (pos 0)) cancels v.w u.w u.y u.x v.y v.x in
    omega (arith, linear, negative_out (ahead n u v) h, e)
