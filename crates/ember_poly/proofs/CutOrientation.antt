-- The part of a ring below a plane is a ring.
use Rattle.std.proofs.Common.{◌≡◌, [], ◌∷◌, ◌∙◌, arith, ℤ, pos, ◌+ℤ◌, ◌-ℤ◌, ◌*ℤ◌, neg_ℤ, ◌<ℤ◌, ◌≤ℤ◌}
use Rattle.ember_model.specs.declared.plane.Plane.{Plane}
use Rattle.ember_model.specs.declared.point.Spot.{Spot}
use Rattle.ember_model.specs.Planes.{value_at}
use Rattle.ember_algebra.proofs.Laws.{linear}
use Rattle.ember_algebra.proofs.Ring.{◌⊕◌, ◌⊖◌, ◌⊗◌, neg, num, ◌≈◌, solve, cancels}
use Rattle.ember_algebra.proofs.Vectors.{tuple, identity}
use Rattle.ember_algebra.proofs.Order.{pos_mul, nonneg_mul, mul_pos_neg, mul_neg_neg, by_sign}
use Rattle.ember_model.proofs.Tuples.{plane_tuple}
use Rattle.ember_poly.specs.Rings.{IsBelow, orientation}
use Rattle.ember_poly.proofs.Planar.{places, both_zero, turnE}

-- ---- turning
orientation_swapped : (a n g : Plane) → orientation a n g ≡ neg_ℤ (orientation n a g)
orientation_swapped a n g = identity (tuple ∷ tuple ∷ tuple ∷ []) (λ a n g. turnE a n g ≈ neg (turnE n a g)) cancels
    (plane_tuple a) (plane_tuple n) (plane_tuple g)

-- the orientation of three planes changes its sign with the order of the last two
pub swap_last : (n g p : Plane) → orientation n p g ≡ neg_ℤ (orientation n g p)
swap_last n g p = identity (tuple ∷ tuple ∷ tuple ∷ []) (λ n g p. turnE n p g ≈ neg (turnE n g p)) cancels (plane_tuple n) (plane_tuple g) (plane_tuple p)

-- the orientation of three planes stays if they change places in turn
pub in_turn : (n p g : Plane) → orientation n p g ≡ orientation g n p
in_turn n p g = identity (tuple ∷ tuple ∷ tuple ∷ []) (λ n p g. turnE n p g ≈ turnE g n p) cancels (plane_tuple n) (plane_tuple p) (plane_tuple g)

-- the identity of places, if two planes vanish at both points
pub value_difference_by_orientation : (n g p a : Plane) (c d : Spot) → value_at n c ≡ pos 0 → value_at n d ≡ pos 0 →
    value_at g c ≡ pos 0 → value_at g d ≡ pos 0 → orientation n g p *ℤ (c.w *ℤ value_at a d -ℤ d.w *ℤ value_at a c)
    ≡ neg_ℤ (orientation n a g *ℤ (c.w *ℤ value_at p d -ℤ d.w *ℤ value_at p c))
value_difference_by_orientation n g p a c d nc nd gc gd =
    places n g p a c d ∙ rw (both_zero c.w d.w nd nc, both_zero c.w d.w gd gc, orientation_swapped a n g)
    (last (orientation a g p) (orientation a p n) (orientation n a g) (c.w *ℤ value_at p d -ℤ d.w *ℤ value_at p c))
  where
    last : (x y t z : ℤ) → x *ℤ pos 0 +ℤ y *ℤ pos 0 +ℤ neg_ℤ t *ℤ z ≡ neg_ℤ (t *ℤ z)
    last = solve 4 (λ x y t z. x ⊗ num (pos 0) ⊕ y ⊗ num (pos 0) ⊕ neg t ⊗ z ≈ neg (t ⊗ z)) cancels

-- a product's sign gives a factor's
pub pos_factor : {a b c : ℤ} → b <ℤ pos 0 → c <ℤ pos 0 → a *ℤ b ≡ c → pos 0 <ℤ a
pos_factor {a} {b} {c} q r e =
    by_sign a (λ p. p) (λ z. absurd (omega (arith, linear, zero z))) (λ p. absurd (omega (arith, linear, mul_neg_neg p q)))
  where
    zero : a ≡ pos 0 → c ≡ pos 0
    zero z = rw (← e, z) (solve 1 (λ b. num (pos 0) ⊗ b ≈ num (pos 0)) cancels b)

-- the edge g, whose last edge before is a, leaves the plane's negative side on the way from c to d
pub turn_exit : (n a g p : Plane) (c d : Spot) → value_at n c ≡ pos 0 → value_at n d ≡ pos 0 → value_at g c ≡ pos 0 →
    value_at g d ≡ pos 0 → value_at a c ≡ pos 0 → IsBelow a d → pos 0 <ℤ orientation n a g → pos 0 <ℤ c.w → pos 0 <ℤ d.w →
    value_at p c <ℤ pos 0 → pos 0 ≤ℤ value_at p d → pos 0 <ℤ orientation n g p
turn_exit n a g p c d nc nd gc gd ac ad t wc wd pc pd =
    let up : pos 0 <ℤ (c.w *ℤ value_at p d -ℤ d.w *ℤ value_at p c) = count_not_below wc wd pd pc in
    let down : (c.w *ℤ value_at a d -ℤ d.w *ℤ value_at a c) <ℤ pos 0 = fall d.w ac (mul_pos_neg wc ad.under) in
    pos_factor down (negative (pos_mul t up)) (value_difference_by_orientation n g p a c d nc nd gc gd)
  where
    count_not_below : {u v x y : ℤ} → pos 0 <ℤ u → pos 0 <ℤ v → pos 0 ≤ℤ x → y <ℤ pos 0 → pos 0 <ℤ (u *ℤ x -ℤ v *ℤ y)
    count_not_below {u} {v} {x} {y} pu pv px py =
        let n : pos 0 ≤ℤ u = omega (arith, linear) in omega (arith, linear, nonneg_mul n px, mul_pos_neg pv py)

    fall : (v : ℤ) {x y : ℤ} → y ≡ pos 0 → x <ℤ pos 0 → (x -ℤ v *ℤ y) <ℤ pos 0
    fall v {x} {y} z q = rw z (omega (arith, linear, q, solve 1 (λ v. v ⊗ num (pos 0) ≈ num (pos 0)) cancels v))

    negative : {x : ℤ} → pos 0 <ℤ x → neg_ℤ x <ℤ pos 0
    negative q = omega (arith, linear)

-- the edge g, whose next edge is h, enters the plane's negative side on the way from c to d
pub turn_entry : (n g h p : Plane) (c d : Spot) → value_at n c ≡ pos 0 → value_at n d ≡ pos 0 → value_at g c ≡ pos 0 →
    value_at g d ≡ pos 0 → value_at h d ≡ pos 0 → IsBelow h c → pos 0 <ℤ orientation n g h → pos 0 <ℤ c.w → pos 0 <ℤ d.w →
    pos 0 ≤ℤ value_at p c → value_at p d <ℤ pos 0 → pos 0 <ℤ orientation n p g
turn_entry n g h p c d nc nd gc gd hd hc t wc wd pc pd =
    let down : (c.w *ℤ value_at p d -ℤ d.w *ℤ value_at p c) <ℤ pos 0 = sink wc wd pc pd in
    let up : (d.w *ℤ value_at h c) <ℤ pos 0 = mul_pos_neg wd hc.under in
    let e : orientation n g p *ℤ (c.w *ℤ value_at h d -ℤ d.w *ℤ value_at h c) ≡ neg_ℤ
    (orientation n h g *ℤ (c.w *ℤ value_at p d -ℤ d.w *ℤ value_at p c)) =
    value_difference_by_orientation n g p h c d nc nd gc gd in
    pos_factor up (mul_pos_neg t down) (shape (orientation n p g) (orientation n g p) (orientation n g h)
    (orientation n h g) c.w (value_at h d) (d.w *ℤ value_at h c) (c.w *ℤ value_at p d -ℤ d.w *ℤ value_at p c)
    (swap_last n g p) (swap_last n g h) hd e)
  where
    sink : {u v x y : ℤ} → pos 0 <ℤ u → pos 0 <ℤ v → pos 0 ≤ℤ x → y <ℤ pos 0 → (u *ℤ y -ℤ v *ℤ x) <ℤ pos 0
    sink {u} {v} {x} {y} pu pv px py =
        let n : pos 0 ≤ℤ v = omega (arith, linear) in omega (arith, linear, nonneg_mul n px, mul_pos_neg pu py)

    shape : (r s t u w x y z : ℤ) → r ≡ neg_ℤ s → u ≡ neg_ℤ t → x ≡ pos 0 → s *ℤ (w *ℤ x -ℤ y) ≡ neg_ℤ (u *ℤ z) → r *ℤ y ≡ t *ℤ z
    shape r s t u w x y z p q i e =
        rw p (solve 3 (λ s w y. neg s ⊗ y ≈ s ⊗ (w ⊗ num (pos 0) ⊖ y)) cancels s w y
        ∙ rw (← i) (e ∙ rw q (solve 2 (λ t z. neg (neg t ⊗ z) ≈ t ⊗ z) cancels t z)))
