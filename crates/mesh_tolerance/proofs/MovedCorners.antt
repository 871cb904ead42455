-- A corner that moves by less than its distance from a point stays ahead.
use Rattle.std.proofs.Common.{◌≡◌, arith, [], ◌∷◌, ℕ, ℤ, pos, ◌-ℤ◌, ◌*ℤ◌, neg_ℤ, ◌<ℤ◌, ◌≤ℤ◌}
use Rattle.ember_algebra.specs.Vector.{Vector, dot, cross}
use Rattle.ember_algebra.proofs.Laws.{linear}
use Rattle.ember_algebra.proofs.Order.{by_sign, pos_mul, nonneg_mul, mul_lt, mul_le, square_nonneg}
use Rattle.ember_algebra.proofs.Ring.{◌⊖◌, ◌⊗◌, ◌≈◌, neg, solve, cancels}
use Rattle.ember_algebra.proofs.Vectors.{vector, tuple, identity, dotE, crossE}
use Rattle.ember_algebra.proofs.Identities.{dot_nonneg}
use Rattle.ember_model.specs.declared.point.Spot.{Spot}
use Rattle.ember_model.proofs.Tuples.{spot_tuple}
use Rattle.ember_model.specs.Points.{displacement}
use Rattle.ember_model.proofs.Displacements.{displacementE}
use Rattle.mesh_tolerance.specs.Distances.{square, IsWithin, IsBeyond}

-- ---- numbers
-- the inequality of Cauchy and Schwarz
cauchy : (d k : Vector) → (square (dot d k)) ≤ℤ (dot d d *ℤ dot k k)
cauchy d k =
    let e = identity (vector ∷ vector ∷ [])
    (λ d k. dotE d d ⊗ dotE k k ⊖ dotE d k ⊗ dotE d k ≈ dotE (crossE d k) (crossE d k)) cancels d k in
    let x = square_nonneg (cross d k).x in let y = square_nonneg (cross d k).y in let z = square_nonneg (cross d k).z in
    omega (arith, linear, e, x, y, z)

-- a positive number that is at most another's opposite has a smaller square
square_below : (x y : ℤ) → pos 0 <ℤ x → x ≤ℤ neg_ℤ y → square x ≤ℤ square y
square_below x y p l =
    let q : pos 0 ≤ℤ x = omega (arith, linear) in let r : pos 0 ≤ℤ neg_ℤ y = omega (arith, linear) in
    let s = mul_le q l in let t = mul_le r l in
    let e = solve 2 (λ x y. x ⊗ neg y ≈ neg y ⊗ x) cancels x y in let f = solve 1 (λ y. neg y ⊗ neg y ≈ y ⊗ y) cancels y in
    omega (arith, linear, s, t, e, f)

-- u and v are the weights of the two corners, p that of the point; f and g are how far they lie ahead, c is how far the
-- move leads, d and k the squares of the direction and of the move
module _ (m s p u v f g c d k : ℤ) (pu : pos 0 <ℤ u) (pv : pos 0 <ℤ v) (pf : pos 0 <ℤ f) (pd : pos 0 ≤ℤ d)
    (step : u *ℤ g -ℤ v *ℤ f ≡ p *ℤ c) (angle : square c ≤ℤ (d *ℤ k))
    (within : (square m *ℤ k) ≤ℤ square (u *ℤ v *ℤ s)) (beyond : (square (p *ℤ u *ℤ s) *ℤ d) <ℤ square (m *ℤ f)) where
  -- if the second corner isn't ahead, the move leads back at least as far as the first is ahead
  back : g ≤ℤ pos 0 → square (v *ℤ f) ≤ℤ square (p *ℤ c)
  back l =
      let w : pos 0 ≤ℤ u = omega (arith, linear) in let n : pos 0 ≤ℤ neg_ℤ g = omega (arith, linear) in
      let e = nonneg_mul w n in let z = solve 2 (λ u g. u ⊗ neg g ≈ neg (u ⊗ g)) cancels u g in
      square_below (v *ℤ f) (p *ℤ c) (pos_mul pv pf) (omega (arith, linear, e, z, step))

  no_move : g ≤ℤ pos 0 → ⊥
  no_move l =
      let a = mul_le (square_nonneg m) (back l) in
      let b = mul_le (square_nonneg (m *ℤ p)) angle in
      let e = mul_le (nonneg_mul (square_nonneg p) pd) within in
      let h = mul_lt (pos_mul pv pv) beyond in
      omega (
        arith,
        linear,
        a,
        b,
        e,
        h,
        solve 3 (λ m v f. (m ⊗ m) ⊗ ((v ⊗ f) ⊗ (v ⊗ f)) ≈ (v ⊗ v) ⊗ ((m ⊗ f) ⊗ (m ⊗ f))) cancels m v f,
        solve 3 (λ m p c. (m ⊗ m) ⊗ ((p ⊗ c) ⊗ (p ⊗ c)) ≈ ((m ⊗ p) ⊗ (m ⊗ p)) ⊗ (c ⊗ c)) cancels m p c,
        solve 4 (λ m p d k. ((m ⊗ p) ⊗ (m ⊗ p)) ⊗ (d ⊗ k) ≈ (p ⊗ p ⊗ d) ⊗ ((m ⊗ m) ⊗ k)) cancels m p d k,
        solve 5 (λ p d u v s. (p ⊗ p ⊗ d) ⊗ ((u ⊗ v ⊗ s) ⊗ (u ⊗ v ⊗ s)) ≈ (v ⊗ v) ⊗
            (((p ⊗ u ⊗ s) ⊗ (p ⊗ u ⊗ s)) ⊗ d)) cancels p d u v s,
      )

  pub still_ahead : pos 0 <ℤ g
  still_ahead = by_sign g (λ l. l) (λ z. absurd (no_move (omega (arith, linear)))) (λ l. absurd (no_move (omega (arith, linear))))

-- ---- corners
way_on : (d : Vector) (p u v : Spot) → u.w *ℤ dot d (displacement p v) -ℤ v.w *ℤ dot d (displacement p u) ≡ p.w *ℤ dot d (displacement u v)
way_on d p u v =
    identity (vector ∷ tuple ∷ tuple ∷ tuple ∷ [])
    (λ d p u v. u.w ⊗ dotE d (displacementE p v) ⊖ v.w ⊗ dotE d (displacementE p u) ≈ p.w ⊗ dotE d (displacementE u v))
    cancels d (spot_tuple p) (spot_tuple u) (spot_tuple v)

-- a corner farther than a distance stays ahead if it moves by no more than that
pub moved_stays_ahead : (size unit : ℕ) (d : Vector) (p u v : Spot) → pos 0 <ℤ u.w → pos 0 <ℤ v.w →
    IsBeyond size unit p d u → IsWithin size unit u v → pos 0 <ℤ dot d (displacement p v)
moved_stays_ahead size unit d p u v wu wv far near =
    still_ahead (pos unit) (pos size) p.w u.w v.w (dot d (displacement p u)) (dot d (displacement p v))
    (dot d (displacement u v)) (dot d d) (dot (displacement u v) (displacement u v)) wu wv far.ahead (dot_nonneg d)
    (way_on d p u v) (cauchy d (displacement u v)) near.within far.beyond
