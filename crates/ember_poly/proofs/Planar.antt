-- Planes and points: identities and signs.
use Rattle.std.proofs.Common.{◌≡◌, ◌≢◌, [], ◌∷◌, ◌∙◌, arith, ℤ, pos, ◌+ℤ◌, ◌-ℤ◌, ◌*ℤ◌, neg_ℤ, ◌<ℤ◌, ◌≤ℤ◌}
use Rattle.ember_model.specs.declared.plane.Plane.{Plane}
use Rattle.ember_model.specs.declared.point.Spot.{Spot}
use Rattle.ember_model.specs.Planes.{value_at}
use Rattle.ember_algebra.proofs.Laws.{linear}
use Rattle.ember_algebra.proofs.Ring.{◌⊕◌, ◌⊖◌, ◌⊗◌, neg, num, ◌≈◌, Expr, solve, cancels}
use Rattle.ember_algebra.proofs.Vectors.{tuple, identity, TupleE, detE, valueE}
use Rattle.ember_algebra.proofs.Order.{nonneg_mul, mul_pos_neg, mul_neg_pos, mul_neg_neg, cancel_eq, cancel_lt, cancel_le}
use Rattle.ember_model.proofs.Tuples.{plane_tuple, spot_tuple, normalE}
use Rattle.ember_poly.specs.Rings.{orientation, IsBelow, IsNotAbove}

-- the point at which p meets the segment from a to b, where a is below p and b isn't
abbrev pub intersection : Plane → Spot → Spot → Spot
intersection p a b =
    record {
      x = value_at p b *ℤ a.x -ℤ value_at p a *ℤ b.x;
      y = value_at p b *ℤ a.y -ℤ value_at p a *ℤ b.y;
      z = value_at p b *ℤ a.z -ℤ value_at p a *ℤ b.z;
      w = value_at p b *ℤ a.w -ℤ value_at p a *ℤ b.w;
    }

abbrev pub turnE : TupleE → TupleE → TupleE → Expr
turnE n g h = detE (normalE n) (normalE g) (normalE h)

abbrev pub intersectionE : TupleE → TupleE → TupleE → TupleE
intersectionE p a b =
    record {
      x = valueE p b ⊗ a.x ⊖ valueE p a ⊗ b.x;
      y = valueE p b ⊗ a.y ⊖ valueE p a ⊗ b.y;
      z =
          valueE p b ⊗ a.z ⊖ valueE p a ⊗ b.z;
      w = valueE p b ⊗ a.w ⊖ valueE p a ⊗ b.w;
    }

-- two points on three planes that meet in one point are the same place
pub places : (n g p e : Plane) (y z : Spot) → orientation n g p *ℤ (y.w *ℤ value_at e z -ℤ z.w *ℤ value_at e y)
    ≡ orientation e g p *ℤ (y.w *ℤ value_at n z -ℤ z.w *ℤ value_at n y) +ℤ orientation e p n *ℤ
    (y.w *ℤ value_at g z -ℤ z.w *ℤ value_at g y) +ℤ orientation e n g *ℤ (y.w *ℤ value_at p z -ℤ z.w *ℤ value_at p y)
places n g p e y z =
    identity (tuple ∷ tuple ∷ tuple ∷ tuple ∷ tuple ∷ tuple ∷ [])
    (λ n g p e y z. turnE n g p ⊗ (y.w ⊗ valueE e z ⊖ z.w ⊗ valueE e y) ≈ turnE e g p ⊗
    (y.w ⊗ valueE n z ⊖ z.w ⊗ valueE n y) ⊕ turnE e p n ⊗ (y.w ⊗ valueE g z ⊖ z.w ⊗ valueE g y) ⊕ turnE e n g ⊗
    (y.w ⊗ valueE p z ⊖ z.w ⊗ valueE p y)) cancels (plane_tuple n) (plane_tuple g) (plane_tuple p) (plane_tuple e)
    (spot_tuple y) (spot_tuple z)

intersection_value : (p : Plane) (a b : Spot) (e : Plane) → value_at e (intersection p a b) ≡ value_at p b *ℤ value_at e a -ℤ value_at p a *ℤ value_at e b
intersection_value p a b e =
    identity (tuple ∷ tuple ∷ tuple ∷ tuple ∷ [])
    (λ p a b e. valueE e (intersectionE p a b) ≈ valueE p b ⊗ valueE e a ⊖ valueE p a ⊗ valueE e b) cancels
    (plane_tuple p) (spot_tuple a) (spot_tuple b) (plane_tuple e)

-- ---- numbers
-- a difference of multiples of 0 is 0
pub both_zero : (a b : ℤ) {x y : ℤ} → x ≡ pos 0 → y ≡ pos 0 → a *ℤ x -ℤ b *ℤ y ≡ pos 0
both_zero a b e f = rw (e, f) (solve 2 (λ a b. a ⊗ num (pos 0) ⊖ b ⊗ num (pos 0) ≈ num (pos 0)) cancels a b)

-- u a - v b, where u >= 0 and v < 0
blend_neg : {u v a b : ℤ} → pos 0 ≤ℤ u → v <ℤ pos 0 → a ≤ℤ pos 0 → b <ℤ pos 0 → (u *ℤ a -ℤ v *ℤ b) <ℤ pos 0
blend_neg {u} {v} {a} {b} p q r s =
    let n : pos 0 ≤ℤ neg_ℤ a = omega (arith, linear) in
    omega (arith, linear, nonneg_mul p n, mul_neg_neg q s, solve 2 (λ u a. u ⊗ neg a ≈ neg (u ⊗ a)) cancels u a)

blend_neg_strict : {u v a b : ℤ} → pos 0 <ℤ u → v <ℤ pos 0 → a <ℤ pos 0 → b ≤ℤ pos 0 → (u *ℤ a -ℤ v *ℤ b) <ℤ pos 0
blend_neg_strict {u} {v} {a} {b} p q r s =
    let n : pos 0 ≤ℤ neg_ℤ b = omega (arith, linear) in let m : pos 0 ≤ℤ neg_ℤ v = omega (arith, linear) in
    omega (arith, linear, mul_pos_neg p r, nonneg_mul m n, solve 2 (λ v b. neg v ⊗ neg b ≈ v ⊗ b) cancels v b)

blend_weight : {u v a b : ℤ} → pos 0 ≤ℤ u → v <ℤ pos 0 → pos 0 <ℤ a → pos 0 <ℤ b → pos 0 <ℤ (u *ℤ a -ℤ v *ℤ b)
blend_weight {u} {v} {a} {b} p q r s =
    let n : pos 0 ≤ℤ a = omega (arith, linear) in omega (arith, linear, nonneg_mul p n, mul_neg_pos q s)

-- ---- the point at which p meets the segment from a to b
pub record Crossing (p : Plane) (a b y : Spot) : Type 0 where
  pub from : value_at p a <ℤ pos 0
  pub to : pos 0 ≤ℤ value_at p b
  pub here : pos 0 <ℤ y.w
  pub there : pos 0 <ℤ (intersection p a b).w
  pub same : (e : Plane) → y.w *ℤ value_at e (intersection p a b) ≡ (intersection p a b).w *ℤ value_at e y

-- two points on three planes that meet in one point are the same place for every plane
pub same_place : (n g p : Plane) → orientation n g p ≢ pos 0 → (e : Plane) (y z : Spot) → value_at n y ≡ pos 0 →
    value_at g y ≡ pos 0 → value_at p y ≡ pos 0 → value_at n z ≡ pos 0 → value_at g z ≡ pos 0 → value_at p z ≡ pos 0 →
    y.w *ℤ value_at e z ≡ z.w *ℤ value_at e y
same_place n g p t e y z ny gy py nz gz pz =
    let h : orientation n g p *ℤ (y.w *ℤ value_at e z -ℤ z.w *ℤ value_at e y) ≡ orientation n g p *ℤ pos 0 =
    places n g p e y z ∙ rw (both_zero y.w z.w nz ny, both_zero y.w z.w gz gy, both_zero y.w z.w pz py)
    (zeros (orientation e g p) (orientation e p n) (orientation e n g) (orientation n g p)) in
    equal_from (cancel_eq t h)
  where
    zeros : (a b c d : ℤ) → a *ℤ pos 0 +ℤ b *ℤ pos 0 +ℤ c *ℤ pos 0 ≡ d *ℤ pos 0
    zeros = solve 4 (λ a b c d. a ⊗ num (pos 0) ⊕ b ⊗ num (pos 0) ⊕ c ⊗ num (pos 0) ≈ d ⊗ num (pos 0)) cancels

    equal_from : {x y : ℤ} → x -ℤ y ≡ pos 0 → x ≡ y
    equal_from e = omega (arith, linear)

-- the meet of an edge's two planes and a third one lies on the edge, if that plane parts its ends
pub crossing_is_meet : (n g p : Plane) (a b y : Spot) → orientation n g p ≢ pos 0 → value_at n a ≡ pos 0 →
    value_at n b ≡ pos 0 → value_at g a ≡ pos 0 → value_at g b ≡ pos 0 → pos 0 <ℤ a.w → pos 0 <ℤ b.w →
    value_at p a <ℤ pos 0 → pos 0 ≤ℤ value_at p b → value_at n y ≡ pos 0 → value_at g y ≡ pos 0 → value_at p y ≡ pos 0 →
    pos 0 <ℤ y.w → Crossing p a b y
crossing_is_meet n g p a b y t na nb ga gb wa wb pa pb ny gy py wy =
    record {
      from = pa;
      to = pb;
      here = wy;
      there = blend_weight pb pa wa wb;
      same = λ e. same_place n g p t e y (intersection p a b) ny gy py
          (intersection_value p a b n ∙ both_zero (value_at p b) (value_at p a) na nb)
          (intersection_value p a b g ∙ both_zero (value_at p b) (value_at p a) ga gb)
          (intersection_value p a b p ∙ own (value_at p b) (value_at p a));
    }
  where
    own : (u v : ℤ) → u *ℤ v -ℤ v *ℤ u ≡ pos 0
    own = solve 2 (λ u v. u ⊗ v ⊖ v ⊗ u ≈ num (pos 0)) cancels

neg_at : {p : Plane} {a b y : Spot} → Crossing p a b y → (e : Plane) → (value_at p b *ℤ value_at e a -ℤ value_at p a *ℤ value_at e b) <ℤ pos 0 → IsBelow e y
neg_at {p} {a} {b} {y} c e h =
    let m : value_at e (intersection p a b) <ℤ pos 0 = rw (intersection_value p a b e) h in
    let l : ((intersection p a b).w *ℤ value_at e y) <ℤ pos 0 = rw (← c.same e) (mul_pos_neg c.here m) in
    record { under = cancel_neg c.there l }
  where
    cancel_neg : {k x : ℤ} → pos 0 <ℤ k → (k *ℤ x) <ℤ pos 0 → x <ℤ pos 0
    cancel_neg {k} {x} p q = cancel_lt p (rw (solve 1 (λ k. k ⊗ num (pos 0) ≈ num (pos 0)) cancels k) q)

-- where a plane crosses an edge is below a plane that one end is below and the other not above
pub under_past : {p : Plane} {a b y : Spot} → Crossing p a b y → (e : Plane) → value_at e a ≤ℤ pos 0 → IsBelow e b → IsBelow e y
under_past c e h k = neg_at c e (blend_neg c.to c.from h k.under)

-- the same, if it is the first end that is below
pub under_first : {p : Plane} {a b y : Spot} → Crossing p a b y → (e : Plane) → pos 0 <ℤ value_at p b → IsBelow e a → value_at e b ≤ℤ pos 0 → IsBelow e y
under_first c e l h k = neg_at c e (blend_neg_strict l c.from h.under k)

blend_most : {u v a b : ℤ} → pos 0 ≤ℤ u → v <ℤ pos 0 → a ≤ℤ pos 0 → b ≤ℤ pos 0 → (u *ℤ a -ℤ v *ℤ b) ≤ℤ pos 0
blend_most {u} {v} {a} {b} p q r s =
    let m : pos 0 ≤ℤ neg_ℤ a = omega (arith, linear) in let n : pos 0 ≤ℤ neg_ℤ b = omega (arith, linear) in
    let o : pos 0 ≤ℤ neg_ℤ v = omega (arith, linear) in
    omega (
      arith,
      linear,
      nonneg_mul p m,
      nonneg_mul o n,
      solve 2 (λ u a. u ⊗ neg a ≈ neg (u ⊗ a)) cancels u a,
      solve 2 (λ v b. neg v ⊗ neg b ≈ v ⊗ b) cancels v b,
    )

-- the point where a plane crosses an edge isn't above a plane that neither end is above
pub most_at : {p : Plane} {a b y : Spot} → Crossing p a b y → (e : Plane) → IsNotAbove e a → IsNotAbove e b → IsNotAbove e y
most_at {p} {a} {b} {y} c e h k =
    let m : value_at e (intersection p a b) ≤ℤ pos 0 = rw (intersection_value p a b e) (blend_most c.to c.from h.at_most k.at_most) in
    let l : (y.w *ℤ value_at e (intersection p a b)) ≤ℤ pos 0 = shrink c.here m in
    record { at_most = cancel_most c.there (rw (← c.same e) l) }
  where
    shrink : {k x : ℤ} → pos 0 <ℤ k → x ≤ℤ pos 0 → (k *ℤ x) ≤ℤ pos 0
    shrink {k} {x} p q =
        let m : pos 0 ≤ℤ neg_ℤ x = omega (arith, linear) in let n : pos 0 ≤ℤ k = omega (arith, linear) in
        omega (arith, linear, nonneg_mul n m, solve 2 (λ k x. k ⊗ neg x ≈ neg (k ⊗ x)) cancels k x)

    cancel_most : {k x : ℤ} → pos 0 <ℤ k → (k *ℤ x) ≤ℤ pos 0 → x ≤ℤ pos 0
    cancel_most {k} {x} p q = cancel_le p (rw (solve 1 (λ k. k ⊗ num (pos 0) ≈ num (pos 0)) cancels k) q)
