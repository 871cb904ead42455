-- A plane through the corners of a triangle has all points of the triangle's plane on it
use Rattle.std.proofs.Common.{◌≡◌, ◌⊎◌, inl, inr, refl, sym, ap, ◌∙◌, arith, Bool, true, false, not, ◌&&◌, [], ◌∷◌, ℤ, pos, ◌+ℤ◌, ◌-ℤ◌, ◌*ℤ◌}
use Rattle.std.proofs.lemmas.Bool.{and_parts, not-true}
use Rattle.ember_algebra.specs.Vector.{Vector}
use Rattle.ember_algebra.specs.Vector.{dot, cross, minus_v, scale_v}
use Rattle.ember_algebra.specs.Sign.{is_zero}
use Rattle.ember_algebra.proofs.Laws.{linear}
use Rattle.ember_algebra.proofs.Order.{square_nonneg, zero_product}
use Rattle.ember_algebra.proofs.Ring.{◌⊕◌, ◌⊖◌, ◌⊗◌, num, ◌≈◌, solve, cancels}
use Rattle.ember_algebra.proofs.Vectors.{vector, tuple, identity, VectorE, TupleE, minusE, scaleE, dotE, crossE, valueE, vector_partE}
use Rattle.ember_algebra.proofs.Numbers.{square_zero}
use Rattle.ember_model.specs.declared.point.Corner.{Corner}
use Rattle.ember_model.specs.declared.point.Spot.{Spot}
use Rattle.ember_model.specs.declared.plane.Plane.{Plane}
use Rattle.ember_model.specs.declared.tri.Tri.{Tri}
use Rattle.ember_model.specs.declared.face.Face.{Face}
use Rattle.ember_model.specs.Planes.{value_at, vector_of, vector_between, plane_through, support_of}
use Rattle.ember_model.specs.Faces.{is_flat}
use Rattle.ember_model.specs.Owners.{spot_of_corner, lies_in_plane_of, is_coplanar}
use Rattle.ember_model.specs.Edges.{normal}
use Rattle.ember_model.proofs.SignTests.{zero_out, clash}
use Rattle.ember_model.proofs.Tuples.{plane_tuple, spot_tuple, cornerE}
use Rattle.ember_coplanar.specs.TrianglePlane.{LiesOn}

-- ---- vectors: what is orthogonal to two sides is so to all that is orthogonal to their normal
both_orthogonal : (p e f q : Vector) → dot (cross e f) (cross e f) *ℤ dot p q ≡ dot p (cross e f) *ℤ dot (cross e f) q
    +ℤ dot p e *ℤ dot f (cross (cross e f) q) -ℤ dot p f *ℤ dot e (cross (cross e f) q)
both_orthogonal =
    identity (vector ∷ vector ∷ vector ∷ vector ∷ [])
    (λ p e f q. dotE (crossE e f) (crossE e f) ⊗ dotE p q ≈ dotE p (crossE e f) ⊗ dotE (crossE e f) q ⊕ dotE p e ⊗
    dotE f (crossE (crossE e f) q) ⊖ dotE p f ⊗ dotE e (crossE (crossE e f) q)) cancels

-- how far v is from the corner, times the weight of v
abbrev away : Corner → Spot → Vector
away c v = minus_v (record { x = v.x; y = v.y; z = v.z }) (scale_v v.w (vector_of c))

abbrev awayE : VectorE → TupleE → VectorE
awayE c v = minusE (vector_partE v) (scaleE v.w c)

along_side : (p : Plane) (c d : Corner) → dot (normal p) (vector_between c d) ≡ value_at p (spot_of_corner d) -ℤ value_at p (spot_of_corner c)
along_side p c d =
    identity (tuple ∷ vector ∷ vector ∷ []) (λ p c d. dotE (vector_partE p) (minusE d c) ≈ valueE p (cornerE d) ⊖ valueE
    p (cornerE c)) cancels (plane_tuple p) (vector_of c) (vector_of d)

value_away : (p : Plane) (c : Corner) (v : Spot) → value_at p v ≡ dot (normal p) (away c v) +ℤ v.w *ℤ value_at p (spot_of_corner c)
value_away p c v =
    identity (tuple ∷ vector ∷ tuple ∷ []) (λ p c v. valueE p v ≈ dotE (vector_partE p) (awayE c v) ⊕ v.w ⊗ valueE p
    (cornerE c)) cancels (plane_tuple p) (vector_of c) (spot_tuple v)

through_away : (n : Vector) (c : Corner) (v : Spot) → dot n (away c v) ≡ value_at (plane_through n c) v
through_away n c v =
    identity (vector ∷ vector ∷ tuple ∷ []) (λ n c v. dotE n (awayE c v) ≈ valueE
    (record { x = n.x; y = n.y; z = n.z; w = dotE n c }) v) cancels n (vector_of c) (spot_tuple v)

-- ---- planes
square_not_zero : (n : Vector) → is_zero n.x && (is_zero n.y && is_zero n.z) ≡ false → dot n n ≡ pos 0 → ⊥
square_not_zero n h e =
    let a = square_nonneg n.x in let b = square_nonneg n.y in let c = square_nonneg n.z in
    let x = square_zero n.x (omega (arith, linear, a, b, c, e)) in
    let y = square_zero n.y (omega (arith, linear, a, b, c, e)) in
    let z = square_zero n.z (omega (arith, linear, a, b, c, e)) in
    clash ((λ i. is_zero (x i) && (is_zero (y i) && is_zero (z i)))) h

module _ (p : Plane) (u : Tri) (a : value_at p (spot_of_corner u.a) ≡ pos 0)
    (b : value_at p (spot_of_corner u.b) ≡ pos 0) (c : value_at p (spot_of_corner u.c) ≡ pos 0) (v : Spot)
    (s : value_at (support_of u) v ≡ pos 0) where
  abbrev e : Vector
  e = vector_between u.a u.b

  abbrev f : Vector
  f = vector_between u.a u.c

  abbrev q : Vector
  q = away u.a v

  along_e : dot (normal p) e ≡ pos 0
  along_e = let l = along_side p u.a u.b in omega (arith, linear, l, a, b)

  along_f : dot (normal p) f ≡ pos 0
  along_f = let l = along_side p u.a u.c in omega (arith, linear, l, a, c)

  across : dot (cross e f) q ≡ pos 0
  across = through_away (cross e f) u.a v ∙ s

  vanish : (k l m : ℤ) {x y z : ℤ} → x ≡ pos 0 → y ≡ pos 0 → z ≡ pos 0 → k *ℤ x +ℤ y *ℤ l -ℤ z *ℤ m ≡ pos 0
  vanish k l m x y z =
      rw (x, y, z) (solve 3 (λ k l m. k ⊗ num (pos 0) ⊕ num (pos 0) ⊗ l ⊖ num (pos 0) ⊗ m ≈ num (pos 0)) cancels k l m)

  product : dot (cross e f) (cross e f) *ℤ dot (normal p) q ≡ pos 0
  product =
      both_orthogonal (normal p) e f q ∙ vanish (dot (normal p) (cross e f)) (dot f (cross (cross e f) q)) (dot e (cross (cross e f) q)) across along_e along_f

  orthogonal : is_flat u ≡ false → dot (normal p) q ≡ pos 0
  unfolding is_flat
  orthogonal h = by (zero_product product)
    where
      by : (dot (cross e f) (cross e f) ≡ pos 0) ⊎ (dot (normal p) q ≡ pos 0) → dot (normal p) q ≡ pos 0
      by (inl z) = absurd (square_not_zero (cross e f) h z)
      by (inr z) = z

  on_plane : is_flat u ≡ false → value_at p v ≡ pos 0
  on_plane h =
      value_away p u.a v ∙ rw (orthogonal h, a) (solve 1 (λ w. num (pos 0) ⊕ w ⊗ num (pos 0) ≈ num (pos 0)) cancels v.w)

-- ---- coplanar triangles
pub record Coplanar (t u : Tri) : Type 0 where
  pub first : is_flat t ≡ false
  pub second : is_flat u ≡ false
  pub a : value_at (support_of t) (spot_of_corner u.a) ≡ pos 0
  pub b : value_at (support_of t) (spot_of_corner u.b) ≡ pos 0
  pub c : value_at (support_of t) (spot_of_corner u.c) ≡ pos 0

coplanar_out : (t u : Tri) → is_coplanar t u ≡ true → Coplanar t u
unfolding is_coplanar
coplanar_out t u e =
    let p = and_parts (not (is_flat t)) _ e in let q = and_parts (not (is_flat u)) _ p.1 in
    let x = and_parts (is_zero (value_at (support_of t) (spot_of_corner u.a))) _ q.1 in
    let y = and_parts (is_zero (value_at (support_of t) (spot_of_corner u.b))) _ x.1 in
    record {
      first = not-true (is_flat t) p.0;
      second = not-true (is_flat u) q.0;
      a =
          zero_out (value_at (support_of t) (spot_of_corner u.a)) x.0;
      b =
          zero_out (value_at (support_of t) (spot_of_corner u.b)) y.0;
      c =
          zero_out (value_at (support_of t) (spot_of_corner u.c)) y.1;
    }

-- what lies in the plane of one lies in that of the other
pub lies_on_both : (t u : Tri) (f : Face) → is_coplanar t u ≡ true → LiesOn u f → LiesOn t f
lies_on_both t u f e l =
    let k = coplanar_out t u e in
    record { normal = k.first; plane = λ v i. on_plane (support_of t) u k.a k.b k.c v (l.plane v i) k.second }

-- ---- the tests in the code's order
-- the test of the support plane's normal is whether the triangle isn't flat
pub has_normal_is : (t : Tri) {n : Plane} {b : Bool} → n ≡ support_of t → b ≡ not (is_zero n.a && (is_zero n.b && is_zero n.c)) → b ≡ not (is_flat t)
unfolding is_flat
has_normal_is t e h = h ∙ ap (λ (n : Plane). not (is_zero n.a && (is_zero n.b && is_zero n.c))) e

-- a triangle lies on a plane if the plane's values at its corners are 0
pub lies_on_is : (t u : Tri) {n : Plane} {b : Bool} → n ≡ support_of t →
    b ≡ is_zero (value_at n (spot_of_corner u.a)) &&
    (is_zero (value_at n (spot_of_corner u.b)) && is_zero (value_at n (spot_of_corner u.c))) → b ≡ lies_in_plane_of t u
lies_on_is t u e h =
    h ∙ ap (λ (n : Plane). is_zero (value_at n (spot_of_corner u.a))
    && (is_zero (value_at n (spot_of_corner u.b)) && is_zero (value_at n (spot_of_corner u.c)))) e

coplanar_is : (t u : Tri) → not (is_flat t) && (lies_in_plane_of t u && not (is_flat u)) ≡ is_coplanar t u
unfolding is_coplanar
coplanar_is t u = by (not (is_flat t)) (lies_in_plane_of t u) (not (is_flat u))
  where
    by : (x y z : Bool) → x && (y && z) ≡ x && (z && y)
    by false y z = refl
    by true true true = refl
    by true true false = refl
    by true false true = refl
    by true false false = refl

-- if the first triangle isn't flat and the second lies in its plane, the second one's normal decides
pub by_all : (t u : Tri) {x y z : Bool} → x ≡ not (is_flat t) → y ≡ lies_in_plane_of t u → z ≡ not (is_flat u) → x ≡ true → y ≡ true → z ≡ is_coplanar t u
by_all t u {x} {y} {z} p q r a b =
    sym (λ i. a i && (b i && z)) ∙ (λ i. p i && (q i && r i)) ∙ coplanar_is t u

-- if the first triangle isn't flat and the second doesn't lie in its plane, they aren't coplanar
pub by_place : (t u : Tri) {x y : Bool} → x ≡ not (is_flat t) → y ≡ lies_in_plane_of t u → x ≡ true → y ≡ false → y ≡ is_coplanar t u
by_place t u {x} {y} p q a b =
    b ∙ sym (λ i. a i && (b i && not (is_flat u))) ∙ (λ i. p i && (q i && not (is_flat u))) ∙ coplanar_is t u

-- if the first triangle is flat, they aren't coplanar
pub by_normal : (t u : Tri) {x : Bool} → x ≡ not (is_flat t) → x ≡ false → x ≡ is_coplanar t u
by_normal t u {x} p a =
    a ∙ sym (λ i. a i && (lies_in_plane_of t u && not (is_flat u))) ∙ (λ i. p i && (lies_in_plane_of t u && not (is_flat u))) ∙ coplanar_is t u
