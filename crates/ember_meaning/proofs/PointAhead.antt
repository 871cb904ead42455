-- A little ahead on a line: planes that are met contain the line, and what covers the points just after x still does.
use Rattle.std.proofs.Common.{◌≡◌, ◌≢◌, refl, sym, ap, ◌∙◌, arith, Bool, true, false, ◌&&◌, cond, [], ◌∷◌, ℕ, ◌+◌, ℤ}
use Rattle.std.proofs.Common.{pos, ◌+ℤ◌, ◌-ℤ◌, ◌*ℤ◌, ◌<ℤ◌, ◌≤ℤ◌, unsigned_abs}
use borrow.Author.Differences.{ints}
use lib.IntN.{*ℤ-zero}
use Rattle.ember_algebra.specs.Vector.{Vector, dot, cross}
use Rattle.ember_algebra.specs.Large.{Eventually, EachSmall}
use Rattle.ember_algebra.specs.Sign.{is_negative, is_zero, is_nil}
use Rattle.ember_algebra.proofs.Laws.{linear}
use Rattle.ember_algebra.proofs.Order.{by_sign, pos_mul}
use Rattle.ember_algebra.proofs.Large.{eventually_both, eventually_map, horner_pos, horner_neg}
use Rattle.ember_algebra.proofs.Ring.{Expr, ◌⊕◌, ◌⊗◌, ◌≈◌, solve, cancels}
use Rattle.ember_algebra.proofs.Vectors.{scalar, vector, tuple, identity, vector_identity, ◌≈v◌, cancels_v, VectorE, TupleE, dotE, crossE, scaleE, valueE}
use Rattle.ember_algebra.proofs.Vectors.{square_positive}
use Rattle.ember_model.specs.declared.plane.Plane.{Plane}
use Rattle.ember_model.specs.declared.point.Spot.{Spot}
use Rattle.ember_model.specs.declared.point.Axis.{Axis}
use Rattle.ember_model.specs.declared.point.Axis.TheVariants.{X, Y, Z}
use Rattle.ember_model.specs.Planes.{value_at}
use Rattle.ember_model.specs.Edges.{normal}
use Rattle.ember_model.proofs.SignTests.{negative_in, negative_not, nonzero_out, positive_nonzero, negative_nonzero, sgn_scaled}
use Rattle.ember_model.proofs.Tuples.{plane_tuple, spot_tuple, normalE}
use Rattle.ember_model.specs.Points.{displacement}
use Rattle.ember_model.proofs.Displacements.{displacementE}
use Rattle.ember_meaning.specs.Closed.Chains.{DirectedEdge, is_zero_vector, is_on_line, is_parallel, reached, coverage}
use Rattle.ember_meaning.proofs.Displacements.{zero_not}
use Rattle.ember_meaning.proofs.RectangleRound.{ahead, IsGeneral, IsOffEnds, component}

-- ---- directions
pub record HasComponent (d : Vector) : Type 0 where
  pub axis : Axis
  pub nonzero : component d axis ≢ pos 0

-- a vector that isn't zero has a component
pub has_component : (d : Vector) → is_zero_vector d ≡ false → HasComponent d
has_component d e = by (is_zero d.x) (is_zero d.y) refl refl e
  where
    by : (a b : Bool) → is_zero d.x ≡ a → is_zero d.y ≡ b → a && (b && is_zero d.z) ≡ false → HasComponent d
    by false b p q e = record { axis = X; nonzero = nonzero_out d.x p }
    by true false p q e = record { axis = Y; nonzero = nonzero_out d.y q }
    by true true p q e = record { axis = Z; nonzero = nonzero_out d.z e }

-- ---- planes
abbrev aheadE : TupleE → VectorE → Expr → TupleE
aheadE x d m = record { x = m ⊗ x.x ⊕ d.x; y = m ⊗ x.y ⊕ d.y; z = m ⊗ x.z ⊕ d.z; w = m ⊗ x.w }

-- the value of a plane ahead
value_ahead : (h : Plane) (x : Spot) (d : Vector) (m : ℤ) → value_at h (ahead x d m) ≡ m *ℤ value_at h x +ℤ dot (normal h) d
value_ahead h x d m =
    identity (tuple ∷ tuple ∷ vector ∷ scalar ∷ [])
    (λ h x d m. valueE h (aheadE x d m) ≈ m ⊗ valueE h x ⊕ dotE (normalE h) d) cancels (plane_tuple h) (spot_tuple x)
    d m

-- a large multiple outweighs a number
outweighs : (v k : ℤ) → Eventually (λ m. (pos 0 <ℤ v → pos 0 <ℤ (pos m *ℤ v +ℤ k)) × (v <ℤ pos 0 → (pos m *ℤ v +ℤ k) <ℤ pos 0))
outweighs v k =
    record {
      from = unsigned_abs k + 1;
      holds = λ m l. let c = turn m in (λ s. rw c (horner_pos (k ∷ []) v (omega arith) small s), λ s. rw c (horner_neg (k ∷ []) v (omega arith) small s));
    }
  where
    small : EachSmall (unsigned_abs k) (k ∷ [])
    small = (record { small = omega arith }, tt)

    turn : (m : ℕ) → pos m *ℤ v +ℤ k ≡ v *ℤ pos m +ℤ k
    turn m = solve 3 (λ m v k. m ⊗ v ⊕ k ≈ v ⊗ m ⊕ k) cancels (pos m) v k

-- a plane that is met ahead contains the line
pub general_ahead : (h : Plane) (x : Spot) (d : Vector) → Eventually (λ m. IsGeneral d (ahead x d (pos m)) h)
general_ahead h x d =
    eventually_map (λ m o. record { contains = λ e. general m o (sym (value_ahead h x d (pos m)) ∙ e) }) (outweighs (value_at h x) (dot (normal h) d))
  where
    general : (m : ℕ) → (pos 0 <ℤ value_at h x →
        pos 0 <ℤ (pos m *ℤ value_at h x +ℤ dot (normal h) d)) × (value_at h x <ℤ pos 0 →
        (pos m *ℤ value_at h x +ℤ dot (normal h) d) <ℤ pos 0) → pos m *ℤ value_at h x +ℤ dot (normal h) d ≡ pos 0 →
        dot (normal h) d ≡ pos 0
    general m o e =
        by_sign (value_at h x) (λ p. absurd (positive_nonzero (o.0 p) e)) (λ z. let q =
        ap (λ (v : ℤ). pos m *ℤ v) z ∙ *ℤ-zero (pos m) in
        omega (arith, linear, e, q)) (λ p. absurd (negative_nonzero (o.1 p) e))

-- ---- edges
-- the line is the same
same_line : (u x : Spot) (d : Vector) (m : ℤ) → pos 0 <ℤ m → is_on_line (ahead x d m) d u ≡ is_on_line x d u
same_line u x d m l =
    ap is_zero_vector (vector_identity (tuple ∷ tuple ∷ vector ∷ scalar ∷ [])
    (λ u x d m. crossE (displacementE u (aheadE x d m)) d ≈v scaleE m (crossE (displacementE u x) d)) cancels_v
    (spot_tuple u) (spot_tuple x) d m) ∙ scaled (cross (displacement u x) d)
  where
    scaled : (v : Vector) → is_zero_vector (record { x = m *ℤ v.x; y = m *ℤ v.y; z = m *ℤ v.z }) ≡ is_zero_vector v
    scaled v = let p = sgn_scaled v.x l in let q = sgn_scaled v.y l in let r = sgn_scaled v.z l in λ i. is_nil (p i) && (is_nil (q i) && is_nil (r i))

ahead_of : (u x : Spot) (d : Vector) (m : ℤ) → dot (displacement u (ahead x d m)) d ≡ m *ℤ dot (displacement u x) d +ℤ u.w *ℤ dot d d
ahead_of u x d m =
    identity (tuple ∷ tuple ∷ vector ∷ scalar ∷ [])
    (λ u x d m. dotE (displacementE u (aheadE x d m)) d ≈ m ⊗ dotE (displacementE u x) d ⊕ u.w ⊗ dotE d d) cancels
    (spot_tuple u) (spot_tuple x) d m

-- ahead, what was reached still is, and nothing else; and no end is beside
reached_ahead : (x : Spot) (d : Vector) (u : Spot) → pos 0 <ℤ u.w → is_zero_vector d ≡ false →
    Eventually (λ m. (reached d u x ≡ reached d u (ahead x d (pos m))) ×
    (dot (displacement u (ahead x d (pos m))) d ≢ pos 0))
reached_ahead x d u w n =
    let v = dot (displacement u x) d in let k = u.w *ℤ dot d d in
    eventually_map (λ m o. let e = ahead_of u x d (pos m) in let r = signs m o in
    (ap (λ (b : Bool). cond b (pos 0) (pos 1)) (r.0 ∙ ap is_negative (sym e)), λ z. r.1 (sym e ∙ z))) (outweighs v k)
  where
    signs : (m : ℕ) → (pos 0 <ℤ dot (displacement u x) d →
        pos 0 <ℤ (pos m *ℤ dot (displacement u x) d +ℤ u.w *ℤ dot d d)) × (dot (displacement u x) d <ℤ pos 0 →
        (pos m *ℤ dot (displacement u x) d +ℤ u.w *ℤ dot d d) <ℤ pos 0) →
        (is_negative (dot (displacement u x) d) ≡ is_negative (pos m *ℤ dot (displacement u x) d +ℤ u.w *ℤ dot d d)) ×
        (pos m *ℤ dot (displacement u x) d +ℤ u.w *ℤ dot d d ≢ pos 0)
    signs m o =
        let v = dot (displacement u x) d in let k = u.w *ℤ dot d d in let kp : pos 0 <ℤ k = pos_mul w (square_positive d (zero_not n)) in
        by_sign v (λ p. up (omega (arith, linear)) (o.0 p))
        (λ z. up (omega (arith, linear)) (let q = ap (λ (v : ℤ). pos m *ℤ v) z ∙ *ℤ-zero (pos m) in
        omega (arith, linear, kp, q))) (λ p. (negative_in p ∙ sym (negative_in (o.1 p)), negative_nonzero (o.1 p)))
      where
        up : {v k : ℤ} → pos 0 ≤ℤ v → pos 0 <ℤ k → (is_negative v ≡ is_negative k) × (k ≢ pos 0)
        up {v} {k} p q = (negative_not v p ∙ sym (negative_not k (omega (arith, linear))), positive_nonzero q)

-- the coverage ahead is that just after x
pub coverage_ahead : (x : Spot) (d : Vector) (e : DirectedEdge) → pos 0 <ℤ e.from.w → pos 0 <ℤ e.to.w →
    is_zero_vector d ≡ false → Eventually (λ m. (coverage x d e ≡ coverage (ahead x d (pos m)) d e) × IsOffEnds d
    (ahead x d (pos m)) e)
coverage_ahead x d e p q n =
    eventually_map (λ m h. let l = sym (same_line e.from x d (pos m) h.0) in let r = h.1.0.0 in let s = h.1.1.0 in
    (λ i. cond (is_parallel d e && l i) (r i -ℤ s i) (pos 0), record { from = h.1.0.1; to = h.1.1.1 }))
    (eventually_both positive (eventually_both (reached_ahead x d e.from p n) (reached_ahead x d e.to q n)))
  where
    positive : Eventually (λ m. pos 0 <ℤ pos m)
    positive = record { from = 1; holds = λ m l. omega (arith, ints) }
