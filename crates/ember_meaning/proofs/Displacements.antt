-- Displacements between points, and parallel vectors.
use Rattle.std.proofs.Common.{◌≡◌, ◌≢◌, ⊎_elim, refl, ap, ◌∙◌, arith, Bool, true, false, ◌&&◌, [], ◌∷◌, ℤ, pos, ◌-ℤ◌, ◌*ℤ◌, ◌<ℤ◌}
use Rattle.std.proofs.lemmas.Bool.{and_parts}
use Rattle.ember_algebra.specs.Vector.{Vector, zero_v, plus_v, minus_v, scale_v, dot, cross}
use Rattle.ember_algebra.specs.Sign.{is_zero}
use Rattle.ember_algebra.proofs.Laws.{linear}
use Rattle.ember_algebra.proofs.Order.{zero_product}
use Rattle.ember_algebra.proofs.Ring.{◌≈◌, num, cancels}
use Rattle.ember_algebra.proofs.Vectors.{vector, tuple, scalar, identity, vector_identity, same_v, VectorE}
use Rattle.ember_algebra.proofs.Vectors.{dotE, crossE, scaleE, plusE, minusE, ◌≈v◌, cancels_v, square_positive}
use Rattle.ember_algebra.proofs.Identities.{dot_zero, parallel_products}
use Rattle.ember_model.specs.declared.plane.Plane.{Plane}
use Rattle.ember_model.specs.declared.point.Spot.{Spot}
use Rattle.ember_model.specs.Planes.{value_at}
use Rattle.ember_model.specs.Edges.{normal}
use Rattle.ember_model.proofs.SignTests.{clash, zero_out, positive_nonzero, zero_scaled, zero_times}
use Rattle.ember_model.proofs.Tuples.{spot_tuple}
use Rattle.ember_model.specs.Points.{displacement}
use Rattle.ember_model.proofs.Displacements.{displacementE, displacement_value}
use Rattle.ember_law.proofs.Generic.{cancel_zero}
use Rattle.ember_meaning.specs.Closed.Chains.{is_zero_vector}

-- ---- a vector that is 0
-- a vector that passes the test is 0
pub zero_vector_out : {v : Vector} → is_zero_vector v ≡ true → v ≡ zero_v
zero_vector_out {v} e =
    let p = and_parts (is_zero v.x) (is_zero v.y && is_zero v.z) e in let q = and_parts (is_zero v.y) (is_zero v.z) p.1 in
    same_v (zero_out v.x p.0) (zero_out v.y q.0) (zero_out v.z q.1)

-- the test answers true of the zero vector
pub zero_vector_in : {v : Vector} → v ≡ zero_v → is_zero_vector v ≡ true
zero_vector_in e = ap is_zero_vector e

-- a vector that fails the test isn't zero
pub zero_not : {v : Vector} → is_zero_vector v ≡ false → v ≢ zero_v
zero_not h z = clash (zero_vector_in z) h

-- every vector is orthogonal to 0
pub orthogonal_to_none : (h : Vector) {v : Vector} → v ≡ zero_v → dot h v ≡ pos 0
orthogonal_to_none h {v} e =
    dot_zero h v (ap (λ (v : Vector). v.x) e) (ap (λ (v : Vector). v.y) e) (ap (λ (v : Vector). v.z) e)

-- ---- displacements on expressions

-- a plane that is 0 at u is 0 if its normal has no product with the way
pub zero_carried : (h : Plane) (u v : Spot) → pos 0 <ℤ u.w → value_at h u ≡ pos 0 → dot (normal h) (displacement u v) ≡ pos 0 → value_at h v ≡ pos 0
zero_carried h u v w zu o =
    cancel_zero u.w (value_at h v) w (drop (displacement_value h u v ∙ o) (zero_scaled v.w (value_at h u) zu))
  where
    drop : {x y : ℤ} → x -ℤ y ≡ pos 0 → y ≡ pos 0 → x ≡ pos 0
    drop p q = omega (arith, linear, p, q)

abbrev pub zeroE : VectorE
zeroE = record { x = num (pos 0); y = num (pos 0); z = num (pos 0) }

-- ---- parallel vectors
abbrev pub Parallel : Vector → Vector → Type 0
Parallel u v = cross u v ≡ zero_v

-- 0 is parallel to every vector
pub none_parallel : {v : Vector} (d : Vector) → v ≡ zero_v → Parallel v d
none_parallel d e =
    ap (λ (v : Vector). cross v d) e ∙ vector_identity (vector ∷ []) (λ d. crossE zeroE d ≈v zeroE) cancels_v d

-- dot products are commutative
pub dot_swap : (u v : Vector) → dot u v ≡ dot v u
dot_swap = identity (vector ∷ vector ∷ []) (λ u v. dotE u v ≈ dotE v u) cancels

-- parallel vectors are parallel in either order
pub parallel_swap : (u v : Vector) → Parallel u v → Parallel v u
parallel_swap u v e =
    vector_identity (vector ∷ vector ∷ []) (λ u v. crossE v u ≈v minusE (minusE (crossE u v) (crossE u v)) (crossE u v))
    cancels_v u v ∙ ap (λ (k : Vector). minus_v (minus_v k k) k) e

-- what is orthogonal to a vector is orthogonal to its parallels
pub parallel_orthogonal : (h x d : Vector) → d ≢ zero_v → Parallel x d → dot h d ≡ pos 0 → dot h x ≡ pos 0
parallel_orthogonal h x d n p o =
    ⊎_elim (λ z. z) (λ z. absurd (positive_nonzero (square_positive d n) z)) (zero_product (parallel_products h d x d p ∙ zero_times (dot h d) (dot d x) o))

-- a vector along d and orthogonal to it is 0
pub parallel_none : (x d : Vector) → d ≢ zero_v → Parallel x d → dot x d ≡ pos 0 → x ≡ zero_v
parallel_none x d n p o = by (is_zero_vector x) refl
  where
    by : (b : Bool) → is_zero_vector x ≡ b → x ≡ zero_v
    by true h = zero_vector_out h
    by false h =
        absurd (positive_nonzero (square_positive x (zero_not h)) (parallel_orthogonal x x d n p o))

-- two parallels of one vector are parallel
pub parallel_both : (u v k : Vector) → k ≢ zero_v → Parallel u k → Parallel v k → Parallel u v
parallel_both u v k n p q =
    same_v (entry (ap (λ (v : Vector). v.x) whole)) (entry (ap (λ (v : Vector). v.y) whole)) (entry (ap (λ (v : Vector). v.z) whole))
  where
    whole : scale_v (dot k k) (cross u v) ≡ zero_v
    whole =
        vector_identity (vector ∷ vector ∷ vector ∷ [])
        (λ u v k. scaleE (dotE k k) (crossE u v) ≈v plusE (crossE (crossE k (crossE u k)) v)
        (scaleE (dotE u k) (minusE (minusE (crossE v k) (crossE v k)) (crossE v k)))) cancels_v u v k
        ∙ (λ i. plus_v (cross (cross k (p i)) v) (scale_v (dot u k) (minus_v (minus_v (q i) (q i)) (q i))))
        ∙ vector_identity (vector ∷ vector ∷ vector ∷ [])
        (λ u v k. plusE (crossE (crossE k zeroE) v) (scaleE (dotE u k) (minusE (minusE zeroE zeroE) zeroE)) ≈v zeroE)
        cancels_v u v k

    entry : {a : ℤ} → dot k k *ℤ a ≡ pos 0 → a ≡ pos 0
    entry {a} e = ⊎_elim (λ z. absurd (positive_nonzero (square_positive k n) z)) (λ z. z) (zero_product e)

-- points of one line along d
pub parallel_onward : (u v r : Spot) (d : Vector) → pos 0 <ℤ u.w → Parallel (displacement u v) d → Parallel (displacement u r) d → Parallel (displacement v r) d
parallel_onward u v r d w p q =
    same_v (entry (ap (λ (v : Vector). v.x) whole)) (entry (ap (λ (v : Vector). v.y) whole)) (entry (ap (λ (v : Vector). v.z) whole))
  where
    whole : scale_v u.w (cross (displacement v r) d) ≡ zero_v
    whole =
        vector_identity (tuple ∷ tuple ∷ tuple ∷ vector ∷ [])
        (λ u v r d. scaleE u.w (crossE (displacementE v r) d) ≈v minusE (scaleE v.w (crossE (displacementE u r) d))
        (scaleE r.w (crossE (displacementE u v) d))) cancels_v (spot_tuple u) (spot_tuple v) (spot_tuple r) d
        ∙ (λ i. minus_v (scale_v v.w (q i)) (scale_v r.w (p i)))
        ∙ vector_identity (scalar ∷ scalar ∷ []) (λ a b. minusE (scaleE a zeroE) (scaleE b zeroE) ≈v zeroE) cancels_v
        v.w r.w

    entry : {a : ℤ} → u.w *ℤ a ≡ pos 0 → a ≡ pos 0
    entry {a} e = cancel_zero u.w a w e

-- the way back is parallel to what the way is parallel to
pub parallel_back : (u v : Spot) (d : Vector) → Parallel (displacement u v) d → Parallel (displacement v u) d
parallel_back u v d p =
    vector_identity (tuple ∷ tuple ∷ vector ∷ [])
    (λ u v d. crossE (displacementE v u) d ≈v minusE
    (minusE (crossE (displacementE u v) d) (crossE (displacementE u v) d)) (crossE (displacementE u v) d)) cancels_v
    (spot_tuple u) (spot_tuple v) d ∙ ap (λ (k : Vector). minus_v (minus_v k k) k) p
