-- The quadrant law of a triangle seen from a point, whose corners are integer vectors, and the plane lemma on integers:
-- the crossing along one direction less that along another is the sum of the three edges' terms.
use Rattle.std.proofs.Common.{◌≡◌, ◌≢◌, ⊎_elim, Bool, true, false, refl, ap, ◌∙◌, arith, not, T, [], ◌∷◌, ℤ, pos, ◌+ℤ◌, ◌-ℤ◌, ◌*ℤ◌}
use Rattle.ember_algebra.specs.Sign.{sgn, is_nil}
use Rattle.ember_algebra.specs.Vector.{Vector, dot, cross, det, minus_v}
use lib.IntN.{*ℤ-zero, zero-*ℤ}
use lib.Dec.{not_T}
pub use Rattle.ember_algebra.specs.Vector.{normal}
pub use Rattle.ember_algebra.proofs.Identities.{dot_zero}
use Rattle.ember_algebra.proofs.Order.{zero_product}
use Rattle.ember_algebra.proofs.Laws.{linear}
use Rattle.ember_algebra.proofs.Ring.{◌⊕◌, ◌⊖◌, ◌⊗◌, ◌≈◌, num, cancels}
use Rattle.ember_algebra.proofs.Vectors.{vector, identity, dotE, crossE, detE, minusE, normalE}
use Rattle.ember_algebra.proofs.Signs.{◌and◌, both, products_may, zero_sum_from, sum3_from, level_from, null_from, not_null, zero_from_sgn}
use Rattle.ember_algebra.proofs.Quadrant.{crossing, edge, may_f, may_both, quadrant_law}

-- ---- the quadrant law
-- the crossing along f of the triangle with corners u, v, w, seen from the origin
abbrev pub crossing_along : Vector → Vector → Vector → Vector → ℤ
crossing_along f u v w =
    crossing (sgn (det u v w)) (sgn (dot f (normal u v w))) (sgn (dot f (cross u v))) (sgn (dot f (cross v w))) (sgn (dot f (cross w u)))

-- the term of the edge from u to v: 1 or -1 where it passes level 0 of h upwards or downwards, between the directions f and g
abbrev pub edge_term : Vector → Vector → Vector → Vector → Vector → ℤ
edge_term h f g u v = edge (sgn (dot h u)) (sgn (dot h v)) (sgn (dot f (cross u v))) (sgn (dot g (cross u v)))

-- an edge from u to v that the line along f through the origin meets is parallel to f
pub record Generic (u v f : Vector) : Type 0 where
  pub x : dot f (cross u v) ≡ pos 0 → (cross (minus_v v u) f).x ≡ pos 0
  pub y : dot f (cross u v) ≡ pos 0 → (cross (minus_v v u) f).y ≡ pos 0
  pub z : dot f (cross u v) ≡ pos 0 → (cross (minus_v v u) f).z ≡ pos 0

-- the two ends are at one level
generic_level : (u v f g h : Vector) → h ≡ cross f g → Generic u v f → dot f (cross u v) ≡ pos 0 → dot h u ≡ dot h v
generic_level u v f g h eh p z =
    let q = identity (vector ∷ vector ∷ vector ∷ vector ∷ [])
    (λ u v f g. dotE (crossE f g) v ⊖ dotE (crossE f g) u ≈ dotE g (crossE (minusE v u) f)) cancels u v f g in
    rw eh (omega (arith, linear, q, dot_zero g (cross (minus_v v u) f) (p.x z) (p.y z) (p.z z)))

-- the normal is orthogonal to a direction to which an edge is parallel
generic_normal : (u v w f n : Vector) → ((a : Vector) → dot a n ≡ dot a (normal u v w)) → Generic u v f → dot f (cross u v) ≡ pos 0 → dot f n ≡ pos 0
generic_normal u v w f n en p z =
    let q = identity (vector ∷ vector ∷ vector ∷ vector ∷ [])
    (λ u v w f. dotE f (normalE u v w) ⊕ dotE (minusE w u) (crossE (minusE v u) f) ≈ num (pos 0)) cancels u v w f in
    let r = dot_zero (minus_v w u) (cross (minus_v v u) f) (p.x z) (p.y z) (p.z z) in en f ∙ omega (arith, linear, q, r)

may_dir : (u v w f h : Vector) → dot h f ≡ pos 0 → (dot f (cross u v) ≡ pos 0 → dot h u ≡ dot h v) →
    (dot f (cross v w) ≡ pos 0 → dot h v ≡ dot h w) → (dot f (cross w u) ≡ pos 0 → dot h w ≡ dot h u) →
    (dot f (cross u v) ≡ pos 0 → dot f (normal u v w) ≡ pos 0) →
    (dot f (cross v w) ≡ pos 0 → dot f (normal u v w) ≡ pos 0) →
    (dot f (cross w u) ≡ pos 0 → dot f (normal u v w) ≡ pos 0) →
    T (may_f (sgn (dot h u)) (sgn (dot h v)) (sgn (dot h w)) (sgn (dot f (cross u v))) (sgn (dot f (cross v w)))
    (sgn (dot f (cross w u))) (sgn (dot f (normal u v w))))
may_dir u v w f h o l1 l2 l3 n1 n2 n3 =
    let q = identity (vector ∷ vector ∷ vector ∷ vector ∷ vector ∷ [])
    (λ u v w f h. dotE h u ⊗ dotE f (crossE v w) ⊕ dotE h v ⊗ dotE f (crossE w u) ⊕ dotE h w ⊗ dotE f (crossE u v) ≈
    detE u v w ⊗ dotE h f) cancels u v w f h in
    let s = identity (vector ∷ vector ∷ vector ∷ vector ∷ [])
    (λ u v w f. dotE f (crossE u v) ⊕ dotE f (crossE v w) ⊕ dotE f (crossE w u) ≈ dotE f (normalE u v w)) cancels u v
    w f in
    both _ _ (zero_sum_from (dot h u) (dot f (cross v w)) (dot h v) (dot f (cross w u)) (dot h w) (dot f (cross u v))
    (q ∙ ap (λ (n : ℤ). det u v w *ℤ n) o ∙ *ℤ-zero (det u v w)))
    (both _ _ (level_from (dot h u) (dot h v) (dot f (cross u v)) l1)
    (both _ _ (level_from (dot h v) (dot h w) (dot f (cross v w)) l2)
    (both _ _ (level_from (dot h w) (dot h u) (dot f (cross w u)) l3)
    (both _ _ (null_from (dot f (cross u v)) (dot f (normal u v w)) n1)
    (both _ _ (null_from (dot f (cross v w)) (dot f (normal u v w)) n2)
    (both _ _ (null_from (dot f (cross w u)) (dot f (normal u v w)) n3)
    (sum3_from (dot f (cross u v)) (dot f (cross v w)) (dot f (cross w u)) (dot f (normal u v w)) s)))))))

may_pair : (u v w f g : Vector) → T (may_both (sgn (dot (cross f g) u)) (sgn (dot (cross f g) v))
    (sgn (dot (cross f g) w)) (sgn (det u v w)) (sgn (dot f (cross u v))) (sgn (dot f (cross v w)))
    (sgn (dot f (cross w u))) (sgn (dot g (cross u v))) (sgn (dot g (cross v w))) (sgn (dot g (cross w u))))
may_pair u v w f g =
    let s = vector ∷ vector ∷ vector ∷ vector ∷ vector ∷ [] in
    let q1 = identity s (λ u v w f g. dotE f (crossE u v) ⊗ dotE g (crossE v w) ⊖ dotE g (crossE u v) ⊗ dotE f
    (crossE v w) ≈ detE u v w ⊗ dotE (crossE f g) v) cancels u v w f g in
    let q2 = identity s (λ u v w f g. dotE f (crossE v w) ⊗ dotE g (crossE w u) ⊖ dotE g (crossE v w) ⊗ dotE f
    (crossE w u) ≈ detE u v w ⊗ dotE (crossE f g) w) cancels u v w f g in
    let q3 = identity s (λ u v w f g. dotE f (crossE w u) ⊗ dotE g (crossE u v) ⊖ dotE g (crossE w u) ⊗ dotE f
    (crossE u v) ≈ detE u v w ⊗ dotE (crossE f g) u) cancels u v w f g in
    both _ _ (products_may (dot f (cross u v)) (dot g (cross v w)) (dot g (cross u v)) (dot f (cross v w)) (det u v w) (dot (cross f g) v) q1)
    (both _ _ (products_may (dot f (cross v w)) (dot g (cross w u)) (dot g (cross v w)) (dot f (cross w u)) (det u v w) (dot (cross f g) w) q2)
    (products_may (dot f (cross w u)) (dot g (cross u v)) (dot g (cross w u)) (dot f (cross u v)) (det u v w) (dot (cross f g) u) q3))

level_g : (u v f g : Vector) → Generic u v g → dot g (cross u v) ≡ pos 0 → dot (cross f g) u ≡ dot (cross f g) v
level_g u v f g p z =
    let q = identity (vector ∷ vector ∷ vector ∷ vector ∷ [])
    (λ u v f g. dotE (crossE f g) u ⊖ dotE (crossE f g) v ≈ dotE f (crossE (minusE v u) g)) cancels u v f g in
    omega (arith, linear, q, dot_zero f (cross (minus_v v u) g) (p.x z) (p.y z) (p.z z))

normal_turned : (u v w a : Vector) → dot a (normal u v w) ≡ dot a (normal v w u)
normal_turned =
    identity (vector ∷ vector ∷ vector ∷ vector ∷ []) (λ u v w a. dotE a (normalE u v w) ≈ dotE a (normalE v w u)) cancels

-- both parts of a true conjunction are true
pub both_out : (a b : Bool) → T (a and b) → T a × T b
both_out true b t = (tt, t)
both_out false b t = absurd t

-- a direction that is not 0 is not level at all three corners
entry_zero : (d k m n p q r e : ℤ) → d ≢ pos 0 → k ≡ pos 0 → m ≡ pos 0 → n ≡ pos 0 → d *ℤ e ≡ k *ℤ p +ℤ m *ℤ q +ℤ n *ℤ r → e ≡ pos 0
entry_zero d k m n p q r e nd zk zm zn h =
    let z : d *ℤ e ≡ pos 0 = h ∙ rw (zk, zm, zn) (omega (arith, linear, zero-*ℤ p, zero-*ℤ q, zero-*ℤ r)) in
    ⊎_elim (λ x. absurd (nd x)) (λ x. x) (zero_product z)

not_all_level : (u v w h : Vector) → det u v w ≢ pos 0 → (h.x ≡ pos 0 → h.y ≡ pos 0 → h.z ≡ pos 0 → ⊥) →
    T (not (is_nil (sgn (dot h u)) and is_nil (sgn (dot h v)) and is_nil (sgn (dot h w))))
not_all_level u v w h nd nh =
    let s = vector ∷ vector ∷ vector ∷ vector ∷ [] in
    not_T _ (λ t.
    let p = both_out _ _ t in let q = both_out _ _ p.1 in
    let a = zero_from_sgn (dot h u) p.0 in let b = zero_from_sgn (dot h v) q.0 in let c = zero_from_sgn (dot h w) q.1 in
    nh (entry_zero (det u v w) (dot h u) (dot h v) (dot h w) (cross v w).x (cross w u).x (cross u v).x h.x nd a b c
    (identity s (λ u v w h. detE u v w ⊗ h.x ≈ dotE h u ⊗ (crossE v w).x ⊕ dotE h v ⊗ (crossE w u).x ⊕ dotE h w ⊗
    (crossE u v).x) cancels u v w h))
    (entry_zero (det u v w) (dot h u) (dot h v) (dot h w) (cross v w).y (cross w u).y (cross u v).y h.y nd a b c
    (identity s (λ u v w h. detE u v w ⊗ h.y ≈ dotE h u ⊗ (crossE v w).y ⊕ dotE h v ⊗ (crossE w u).y ⊕ dotE h w ⊗
    (crossE u v).y) cancels u v w h))
    (entry_zero (det u v w) (dot h u) (dot h v) (dot h w) (cross v w).z (cross w u).z (cross u v).z h.z nd a b c
    (identity s (λ u v w h. detE u v w ⊗ h.z ≈ dotE h u ⊗ (crossE v w).z ⊕ dotE h v ⊗ (crossE w u).z ⊕ dotE h w ⊗
    (crossE u v).z) cancels u v w h)))

-- the three edges of a triangle
pub record GenericAll (u v w f : Vector) : Type 0 where
  pub first : Generic u v f
  pub second : Generic v w f
  pub third : Generic w u f

-- the crossings of a triangle along two directions differ by the terms of its three edges
pub quadrant : (u v w f g : Vector) → det u v w ≢ pos 0 →
    ((cross f g).x ≡ pos 0 → (cross f g).y ≡ pos 0 → (cross f g).z ≡ pos 0 → ⊥) → GenericAll u v w f →
    GenericAll u v w g → crossing_along f u v w -ℤ crossing_along g u v w ≡ edge_term (cross f g) f g u v +ℤ edge_term
    (cross f g) f g v w +ℤ edge_term (cross f g) f g w u
quadrant u v w f g nd nh a b =
    let of_ = identity (vector ∷ vector ∷ []) (λ f g. dotE (crossE f g) f ≈ num (pos 0)) cancels f g in
    let og = identity (vector ∷ vector ∷ []) (λ f g. dotE (crossE f g) g ≈ num (pos 0)) cancels f g in
    let t2 = λ (x : Vector). normal_turned u v w x in
    let t3 = λ (x : Vector). normal_turned u v w x ∙ normal_turned v w u x in
    let p = may_dir u v w f (cross f g) of_ (generic_level u v f g (cross f g) refl a.first)
    (generic_level v w f g (cross f g) refl a.second) (generic_level w u f g (cross f g) refl a.third)
    (generic_normal u v w f (normal u v w) (λ x. refl) a.first) (generic_normal v w u f (normal u v w) t2 a.second)
    (generic_normal w u v f (normal u v w) t3 a.third) in
    let q = may_dir u v w g (cross f g) og (level_g u v f g b.first) (level_g v w f g b.second)
    (level_g w u f g b.third) (generic_normal u v w g (normal u v w) (λ x. refl) b.first)
    (generic_normal v w u g (normal u v w) t2 b.second) (generic_normal w u v g (normal u v w) t3 b.third) in
    quadrant_law _ _ _ _ _ _ _ _ _ _ _ _ (both _ _ (not_null (det u v w) nd) (not_all_level u v w (cross f g) nd nh)) p (both _ _ q (may_pair u v w f g))
