-- A corner whose coordinates are fractions, each within some ticks of another's, is within the length that is shown.
use Rattle.std.proofs.Common.{◌≡◌, ap, ◌∙◌, arith, ℕ, ◌+◌, ◌*◌, ◌≤◌, ℤ, pos, ◌+ℤ◌, ◌-ℤ◌, ◌*ℤ◌, neg_ℤ, ◌<ℤ◌, ◌≤ℤ◌, unsigned_abs}
use borrow.Author.Differences.{ints}
use Rattle.ember_algebra.proofs.Laws.{linear}
use Rattle.ember_algebra.proofs.Order.{mul_le, square_nonneg}
use Rattle.ember_algebra.proofs.Ring.{◌⊖◌, ◌⊗◌, ◌≈◌, neg, solve, cancels}
use Rattle.ember_model.specs.declared.point.Spot.{Spot}
use Rattle.ember_model.specs.Points.{displacement}
use Rattle.mesh_number.specs.Float.Binary32.{distance}
use Rattle.mesh_number.specs.Number.Fractions.{Fraction}
use Rattle.mesh_tolerance.specs.Distances.{square, IsWithin}
use Rattle.mesh_tolerance.specs.Files.{point_of}
use Rattle.mesh_tolerance.proofs.BoundedMoves.{squared_bound, corner_is_within}

-- ---- one axis
-- a bound of a multiple of d, carried to x, which is `rest` times as far the other way, where the weights are w
pub carried_bound : (m q t : ℕ) (d rest x w : ℤ) → m * unsigned_abs d ≤ q * t → x ≡ neg_ℤ (rest *ℤ d) → w ≡ rest *ℤ pos q →
    (square (pos m) *ℤ square x) ≤ℤ (square w *ℤ square (pos t))
carried_bound m q t d rest x w h ex ew =
    let b = mul_le (square_nonneg rest) (squared_bound m q t d h) in
    let e = ap (λ (z : ℤ). square (pos m) *ℤ square z) ex
    ∙ solve 3 (λ m r d. (m ⊗ m) ⊗ (neg (r ⊗ d) ⊗ neg (r ⊗ d)) ≈ (r ⊗ r) ⊗ ((m ⊗ m) ⊗ (d ⊗ d))) cancels (pos m) rest d in
    let f = ap (λ (z : ℤ). square z *ℤ square (pos t)) ew
    ∙ solve 3 (λ r q t. ((r ⊗ q) ⊗ (r ⊗ q)) ⊗ (t ⊗ t) ≈ (r ⊗ r) ⊗ ((q ⊗ q) ⊗ (t ⊗ t))) cancels rest (pos q) (pos t) in
    omega (arith, linear, b, e, f)

-- ---- three axes
in_integers : (r s t k m : ℕ) → (r * r + (s * s + t * t)) * (k * k) ≤ m * m →
    ((square (pos r) +ℤ square (pos s) +ℤ square (pos t)) *ℤ square (pos k)) ≤ℤ square (pos m)
in_integers r s t k m h =
    let g : (r * r + s * s + t * t) * (k * k) ≤ m * m = omega (arith, h) in omega (arith, ints, g)

-- u has the numerators i, j, k over one denominator, v is the point with the coordinates x, y and z; m ticks are n
-- units, and along the axes there are at most r, s and t of them between the two
module _ (m n under size unit : ℕ) (i j k : ℤ) (x y z : Fraction) (r s t : ℕ) (pm : pos 0 <ℤ pos m)
    (hx : m * distance i under x ≤ under * x.denominator * n * r) (hy : m * distance j under y ≤ under * y.denominator * n * s)
    (hz : m * distance k under z ≤ under * z.denominator * n * t)
    (shown : (r * r + (s * s + t * t)) * (n * unit * (n * unit)) ≤ m * size * (m * size)) where
  abbrev u : Spot
  u = record { x = i; y = j; z = k; w = pos under }

  abbrev v : Spot
  v = point_of x y z

  pub point_is_within : IsWithin size unit u v
  point_is_within =
      let a = pos x.denominator in let b = pos y.denominator in let c = pos z.denominator in let w = pos under in
      let limit : ((square (pos r) +ℤ square (pos s) +ℤ square (pos t)) *ℤ square (pos n *ℤ pos unit)) ≤ℤ
      square (pos m *ℤ pos size) = in_integers r s t (n * unit) (m * size) shown in
      corner_is_within m n size unit u v r s t pm
      (carried_bound m (under * x.denominator * n) r (i *ℤ a -ℤ x.numerator *ℤ w) (b *ℤ c) (displacement u v).x (u.w *ℤ v.w *ℤ pos n) hx
      (solve 6 (λ w i x a b c. w ⊗ (x ⊗ (b ⊗ c)) ⊖ (a ⊗ (b ⊗ c)) ⊗ i ≈ neg ((b ⊗ c) ⊗ (i ⊗ a ⊖ x ⊗ w))) cancels w i
      x.numerator a b c)
      (solve 5 (λ w n a b c. w ⊗ (a ⊗ (b ⊗ c)) ⊗ n ≈ (b ⊗ c) ⊗ (w ⊗ a ⊗ n)) cancels w (pos n) a b c))
      (carried_bound m (under * y.denominator * n) s (j *ℤ b -ℤ y.numerator *ℤ w) (c *ℤ a) (displacement u v).y (u.w *ℤ v.w *ℤ pos n) hy
      (solve 6 (λ w j y a b c. w ⊗ (y ⊗ (c ⊗ a)) ⊖ (a ⊗ (b ⊗ c)) ⊗ j ≈ neg ((c ⊗ a) ⊗ (j ⊗ b ⊖ y ⊗ w))) cancels w j
      y.numerator a b c)
      (solve 5 (λ w n a b c. w ⊗ (a ⊗ (b ⊗ c)) ⊗ n ≈ (c ⊗ a) ⊗ (w ⊗ b ⊗ n)) cancels w (pos n) a b c))
      (carried_bound m (under * z.denominator * n) t (k *ℤ c -ℤ z.numerator *ℤ w) (a *ℤ b) (displacement u v).z (u.w *ℤ v.w *ℤ pos n) hz
      (solve 6 (λ w k z a b c. w ⊗ (z ⊗ (a ⊗ b)) ⊖ (a ⊗ (b ⊗ c)) ⊗ k ≈ neg ((a ⊗ b) ⊗ (k ⊗ c ⊖ z ⊗ w))) cancels w k
      z.numerator a b c)
      (solve 5 (λ w n a b c. w ⊗ (a ⊗ (b ⊗ c)) ⊗ n ≈ (a ⊗ b) ⊗ (w ⊗ c ⊗ n)) cancels w (pos n) a b c)) limit
