-- The corners of the rectangle: near t they have the signs at t, and no plane is met.
use Rattle.std.proofs.Common.{◌≡◌, ◌≢◌, ⊎_elim, sym, ap, ◌∙◌, arith, [], ◌∷◌, ℕ, ◌+◌, ◌<◌, ℤ, pos, ◌+ℤ◌, ◌*ℤ◌, ◌<ℤ◌, unsigned_abs}
use borrow.Author.Differences.{ints}
use lib.IntN.{zero-*ℤ}
use Rattle.ember_algebra.specs.Vector.{Vector, dot}
use Rattle.ember_algebra.specs.Large.{Eventually, horner, EachSmall}
use Rattle.ember_algebra.proofs.Laws.{linear}
use Rattle.ember_algebra.proofs.Order.{by_sign, pos_mul, zero_product}
use Rattle.ember_algebra.proofs.Large.{horner_pos, horner_neg}
use Rattle.ember_algebra.proofs.Ring.{◌⊕◌, ◌⊗◌, ◌≈◌, solve, cancels}
use Rattle.ember_model.specs.declared.plane.Plane.{Plane}
use Rattle.ember_model.specs.declared.point.Spot.{Spot}
use Rattle.ember_model.specs.declared.point.Axis.{Axis}
use Rattle.ember_model.specs.declared.point.Axis.TheVariants.{X, Y, Z}
use Rattle.ember_model.specs.Planes.{value_at, along, HasNoNormal}
use Rattle.ember_model.specs.Points.{scaled, moved}
use Rattle.ember_model.specs.Edges.{normal}
use Rattle.ember_model.proofs.NearClearPoints.{Follows}
use Rattle.ember_model.proofs.PlaneValues.{value_scaled, value_moved}
use Rattle.ember_meaning.proofs.RectangleRound.{IsGeneral, component, next, corner}

-- the value of a plane at a corner
pub value_corner : (h : Plane) (c : Axis) (t : Spot) (m sa sb : ℤ) →
    value_at h (corner c t m sa sb) ≡ m *ℤ (m *ℤ value_at h t +ℤ sb *ℤ along h (next (next c))) +ℤ sa *ℤ along h (next c)
value_corner h c t m sa sb =
    value_moved h (moved (scaled (m *ℤ m) t) (next (next c)) (m *ℤ sb)) (next c) sa
    ∙ ap (λ (v : ℤ). v +ℤ sa *ℤ along h (next c))
    (value_moved h (scaled (m *ℤ m) t) (next (next c)) (m *ℤ sb)
    ∙ ap (λ (v : ℤ). v +ℤ m *ℤ sb *ℤ along h (next (next c))) (value_scaled (m *ℤ m) h t)
    ∙ solve 4 (λ m v s k. m ⊗ m ⊗ v ⊕ m ⊗ s ⊗ k ≈ m ⊗ (m ⊗ v ⊕ s ⊗ k)) cancels m (value_at h t) sb
    (along h (next (next c))))

abbrev step_one : Plane → Axis → ℤ → ℤ
step_one h c sb = sb *ℤ along h (next (next c))

abbrev step_two : Plane → Axis → ℤ → ℤ
step_two h c sa = sa *ℤ along h (next c)

as_horner : (h : Plane) (c : Axis) (t : Spot) (m sa sb : ℤ) → value_at h (corner c t m sa sb) ≡ horner m (value_at h t) (step_one h c sb ∷ step_two h c sa ∷ [])
as_horner h c t m sa sb =
    value_corner h c t m sa sb ∙ solve 4 (λ m v b a. m ⊗ (m ⊗ v ⊕ b) ⊕ a ≈ (v ⊗ m ⊕ b) ⊗ m ⊕ a) cancels m (value_at h t) (step_one h c sb) (step_two h c sa)

abbrev reach : Plane → Axis → ℤ → ℤ → ℕ
reach h c sa sb = unsigned_abs (step_one h c sb) + unsigned_abs (step_two h c sa)

sizes : (h : Plane) (c : Axis) (sa sb : ℤ) → EachSmall (reach h c sa sb) (step_one h c sb ∷ step_two h c sa ∷ [])
sizes h c sa sb = (record { small = omega arith }, (record { small = omega arith }, tt))

-- planes that t is off have their signs at the corners
pub follows_corner : (h : Plane) (c : Axis) (t : Spot) (sa sb : ℤ) → Eventually (λ m. Follows t (corner c t (pos m) sa sb) h)
follows_corner h c t sa sb =
    record {
      from = reach h c sa sb + 1;
      holds = λ m l. record {
        up = λ s. rw (as_horner h c t (pos m) sa sb) (horner_pos (step_one h c sb ∷ step_two h c sa ∷ []) (value_at h t) (omega arith) (sizes h c sa sb) s);
        down = λ s. rw (as_horner h c t (pos m) sa sb) (horner_neg (step_one h c sb ∷ step_two h c sa ∷ []) (value_at h t) (omega arith) (sizes h c sa sb) s);
      };
    }

-- the corners have the weights of points
pub weight_corner : (c : Axis) (t : Spot) (sa sb : ℤ) → pos 0 <ℤ t.w → Eventually (λ m. pos 0 <ℤ (corner c t (pos m) sa sb).w)
weight_corner c t sa sb w =
    record { from = 1; holds = λ m l. let p : pos 0 <ℤ pos m = omega (arith, ints) in weight (pos m) c (pos_mul (pos_mul p p) w) }
  where
    weight : (m : ℤ) (c : Axis) → pos 0 <ℤ (m *ℤ m *ℤ t.w) → pos 0 <ℤ (corner c t m sa sb).w
    weight m X p = p
    weight m Y p = p
    weight m Z p = p

-- a product that is 0 with two others left out
lone : (k x b y c z : ℤ) → x ≢ pos 0 → b ≡ pos 0 → c ≡ pos 0 → k *ℤ x +ℤ b *ℤ y +ℤ c *ℤ z ≡ pos 0 → k ≡ pos 0
lone k x b y c z n eb ec e =
    let p = ap (λ (v : ℤ). v *ℤ y) eb ∙ zero-*ℤ y in let q = ap (λ (v : ℤ). v *ℤ z) ec ∙ zero-*ℤ z in
    let r : k *ℤ x ≡ pos 0 = omega (arith, linear, e, p, q) in ⊎_elim (λ z. z) (λ z. absurd (n z)) (zero_product r)

-- a normal with no part along two axes and no product with d
no_normal : (h : Plane) (c : Axis) (d : Vector) → component d c ≢ pos 0 → dot (normal h) d ≡ pos 0 →
    along h (next (next c)) ≡ pos 0 → along h (next c) ≡ pos 0 → HasNoNormal h
no_normal h X d n z b a = (lone h.a d.x h.b d.y h.c d.z n a b z, a, b)
no_normal h Y d n z b a = (b, lone h.b d.y h.a d.x h.c d.z n b a (omega (arith, linear, z)), a)
no_normal h Z d n z b a = (a, b, lone h.c d.z h.a d.x h.b d.y n a b (omega (arith, linear, z)))

-- a plane that is 0 at a corner has no normal
pub off_corner : (h : Plane) (c : Axis) (d : Vector) (t : Spot) (sa sb : ℤ) → component d c ≢ pos 0 → sa ≢ pos 0 →
    sb ≢ pos 0 → IsGeneral d t h → Eventually (λ m. value_at h (corner c t (pos m) sa sb) ≡ pos 0 → HasNoNormal h)
off_corner h c d t sa sb n na nb g =
    record {
      from = reach h c sa sb + 1;
      holds =
          λ m l e. from (off_two m (value_at h t) (step_one h c sb) (step_two h c sa) (omega arith) (sizes h c sa sb)
          (sym (as_horner h c t (pos m) sa sb) ∙ e));
    }
  where
    off_two : {k : ℕ} (m : ℕ) (v a b : ℤ) → k < m → EachSmall k (a ∷ b ∷ []) → horner (pos m) v (a ∷ b ∷ []) ≡ pos 0 → (v ≡ pos 0) × (a ≡ pos 0) × (b ≡ pos 0)
    off_two m v a b l s e =
        by_sign v
        (λ p. let q = horner_pos (a ∷ b ∷ []) v l s p in absurd (omega (arith, linear, q, e)))
        (λ z. let za : v *ℤ pos m +ℤ a ≡ a = rw z (omega (arith, ints)) in
        let ea : horner (pos m) a (b ∷ []) ≡ pos 0 = sym (ap (λ (x : ℤ). horner (pos m) x (b ∷ [])) za) ∙ e in
        by_sign a
        (λ p. let q = horner_pos (b ∷ []) a l s.1 p in absurd (omega (arith, linear, q, ea)))
        (λ zb. (z, zb, sym (let h : a *ℤ pos m +ℤ b ≡ b = rw zb (omega (arith, ints)) in h) ∙ ea))
        (λ p. let q = horner_neg (b ∷ []) a l s.1 p in absurd (omega (arith, linear, q, ea))))
        (λ p. let q = horner_neg (a ∷ b ∷ []) v l s p in absurd (omega (arith, linear, q, e)))

    from : (value_at h t ≡ pos 0) × (step_one h c sb ≡ pos 0) × (step_two h c sa ≡ pos 0) → HasNoNormal h
    from z =
        no_normal h c d n (g.contains z.0) (⊎_elim (λ e. absurd (nb e)) (λ e. e) (zero_product z.1)) (⊎_elim (λ e. absurd (na e)) (λ e. e) (zero_product z.2))
