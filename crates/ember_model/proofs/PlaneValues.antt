-- The values of planes at moved and scaled points, and those of a triangle's planes by its corners seen from the point.
use Rattle.std.proofs.Common.{◌≡◌, refl, ◌∙◌, arith, [], ◌∷◌, ℤ, pos, negsuc, zero, suc, ◌+ℤ◌, ◌-ℤ◌, ◌*ℤ◌, neg_ℤ}
use borrow.Author.Differences.{ints}
use Rattle.ember_algebra.specs.Vector.{Vector, Tuple, dot, cross, det, normal}
use Rattle.ember_algebra.specs.Sign.{sign, sgn, number}
use Rattle.ember_algebra.proofs.Ring.{◌⊕◌, ◌⊖◌, ◌⊗◌, ◌≈◌, num, neg, solve, cancels}
use Rattle.ember_algebra.proofs.Vectors.{VectorE, TupleE, vector, tuple, identity, dotE, crossE, detE, minusE, normalE, vector_partE, valueE}
use Rattle.ember_model.specs.declared.point.Corner.{Corner}
use Rattle.ember_model.specs.declared.tri.Tri.{Tri}
use Rattle.ember_model.specs.declared.plane.Plane.{Plane}
use Rattle.ember_model.specs.declared.point.Spot.{Spot}
use Rattle.ember_model.specs.declared.point.Axis.{Axis}
use Rattle.ember_model.specs.declared.point.Axis.TheVariants.{X, Y, Z}
use Rattle.ember_model.specs.Planes.{vector_of, unit, value_at, along, times_plane, support_of, edge_through, opposite}
use Rattle.ember_model.specs.Points.{scaled, moved, plus_s}
use Rattle.ember_model.specs.Faces.{size, hit}

-- ---- linear
-- the value of a plane at a point times k is k times its value
pub value_scaled : (k : ℤ) (p : Plane) (s : Spot) → value_at p (scaled k s) ≡ k *ℤ value_at p s
value_scaled k p s =
    solve 9 (λ k a b c d x y z w. a ⊗ (k ⊗ x) ⊕ b ⊗ (k ⊗ y) ⊕ c ⊗ (k ⊗ z) ⊖ d ⊗ (k ⊗ w) ≈ k ⊗
    (a ⊗ x ⊕ b ⊗ y ⊕ c ⊗ z ⊖ d ⊗ w)) cancels k p.a p.b p.c p.d s.x s.y s.z s.w

-- the value of a multiple of a plane is the multiple of its value
pub value_times : (k : ℤ) (p : Plane) (s : Spot) → value_at (times_plane k p) s ≡ k *ℤ value_at p s
value_times k p s =
    solve 9 (λ k a b c d x y z w. (k ⊗ a) ⊗ x ⊕ (k ⊗ b) ⊗ y ⊕ (k ⊗ c) ⊗ z ⊖ (k ⊗ d) ⊗ w ≈ k ⊗
    (a ⊗ x ⊕ b ⊗ y ⊕ c ⊗ z ⊖ d ⊗ w)) cancels k p.a p.b p.c p.d s.x s.y s.z s.w

-- the value of a plane at a sum of points is the sum of its values
pub value_plus : (p : Plane) (s t : Spot) → value_at p (plus_s s t) ≡ value_at p s +ℤ value_at p t
value_plus p s t =
    solve 12 (λ a b c d x y z w u v q r. a ⊗ (x ⊕ u) ⊕ b ⊗ (y ⊕ v) ⊕ c ⊗ (z ⊕ q) ⊖ d ⊗ (w ⊕ r) ≈
    (a ⊗ x ⊕ b ⊗ y ⊕ c ⊗ z ⊖ d ⊗ w) ⊕ (a ⊗ u ⊕ b ⊗ v ⊕ c ⊗ q ⊖ d ⊗ r)) cancels p.a p.b p.c p.d s.x s.y s.z s.w t.x t.y
    t.z t.w

-- a move along an axis changes a plane's value by the way times the plane's coefficient
pub value_moved : (p : Plane) (s : Spot) (a : Axis) (by : ℤ) → value_at p (moved s a by) ≡ value_at p s +ℤ by *ℤ along p a
value_moved p s X by =
    solve 9 (λ k a b c d x y z w. a ⊗ (x ⊕ k) ⊕ b ⊗ y ⊕ c ⊗ z ⊖ d ⊗ w ≈ (a ⊗ x ⊕ b ⊗ y ⊕ c ⊗ z ⊖ d ⊗ w) ⊕ k ⊗ a) cancels by p.a p.b p.c p.d s.x s.y s.z s.w
value_moved p s Y by =
    solve 9 (λ k a b c d x y z w. a ⊗ x ⊕ b ⊗ (y ⊕ k) ⊕ c ⊗ z ⊖ d ⊗ w ≈ (a ⊗ x ⊕ b ⊗ y ⊕ c ⊗ z ⊖ d ⊗ w) ⊕ k ⊗ b) cancels by p.a p.b p.c p.d s.x s.y s.z s.w
value_moved p s Z by =
    solve 9 (λ k a b c d x y z w. a ⊗ x ⊕ b ⊗ y ⊕ c ⊗ (z ⊕ k) ⊖ d ⊗ w ≈ (a ⊗ x ⊕ b ⊗ y ⊕ c ⊗ z ⊖ d ⊗ w) ⊕ k ⊗ c) cancels by p.a p.b p.c p.d s.x s.y s.z s.w

abbrev pub cross_product : Plane → Vector
cross_product p = record { x = p.a; y = p.b; z = p.c }

-- a plane's coefficient along an axis, as a dot product
pub along_dot : (p : Plane) (a : Axis) → along p a ≡ dot (cross_product p) (unit a)
along_dot p X = solve 3 (λ a b c. a ≈ a ⊗ num (pos 1) ⊕ b ⊗ num (pos 0) ⊕ c ⊗ num (pos 0)) cancels p.a p.b p.c
along_dot p Y = solve 3 (λ a b c. b ≈ a ⊗ num (pos 0) ⊕ b ⊗ num (pos 1) ⊕ c ⊗ num (pos 0)) cancels p.a p.b p.c
along_dot p Z = solve 3 (λ a b c. c ≈ a ⊗ num (pos 0) ⊕ b ⊗ num (pos 0) ⊕ c ⊗ num (pos 1)) cancels p.a p.b p.c

-- ---- sizes
-- the size of an integer is its sign times itself
pub size-is : (z : ℤ) → size z ≡ sign z *ℤ z
size-is (pos zero) = refl
size-is (pos (suc n)) = omega (arith, ints)
size-is (negsuc n) = omega (arith, ints)

-- the sign of a number, as a number and as a `Sign`
pub sign-number : (z : ℤ) → sign z ≡ number (sgn z)
sign-number (pos zero) = refl
sign-number (pos (suc n)) = refl
sign-number (negsuc n) = refl

-- a number and its sign have the same `Sign`
pub sgn-sign : (z : ℤ) → sgn (sign z) ≡ sgn z
sgn-sign (pos zero) = refl
sgn-sign (pos (suc n)) = refl
sgn-sign (negsuc n) = refl

-- ---- the hit
-- the value of a plane at a hit
pub value_hit : (q n : Plane) (a : Axis) (p : Spot) → value_at q (hit n a p) ≡ size (along n a) *ℤ value_at q p -ℤ sign (along n a) *ℤ value_at n p *ℤ along q a
value_hit q n a p =
    value_moved q (scaled (size (along n a)) p) a (neg_ℤ (sign (along n a) *ℤ value_at n p))
    ∙ rw (value_scaled (size (along n a)) q p)
    (solve 4 (λ m v t k. m ⊗ v ⊕ neg t ⊗ k ≈ m ⊗ v ⊖ t ⊗ k) cancels (size (along n a)) (value_at q p)
    (sign (along n a) *ℤ value_at n p) (along q a))

-- the hit of a ray lies on the plane
pub hit_flat : (n : Plane) (a : Axis) (p : Spot) → value_at n (hit n a p) ≡ pos 0
hit_flat n a p =
    value_hit n n a p ∙ rw (size-is (along n a)) (solve 3 (λ s k v. s ⊗ k ⊗ v ⊖ s ⊗ v ⊗ k ≈ num (pos 0)) cancels (sign (along n a)) (along n a) (value_at n p))

-- ---- a triangle seen from a point
-- the four numbers of a point
abbrev pub tuple_of : Spot → Tuple
tuple_of p = record { x = p.x; y = p.y; z = p.z; w = p.w }

-- the vector from a point to a corner, times the point's weight
abbrev pub seen : Spot → Corner → Vector
seen p u = record { x = p.w *ℤ u.x -ℤ p.x; y = p.w *ℤ u.y -ℤ p.y; z = p.w *ℤ u.z -ℤ p.z }

abbrev pub seenE : TupleE → VectorE → VectorE
seenE p u = record { x = p.w ⊗ u.x ⊖ p.x; y = p.w ⊗ u.y ⊖ p.y; z = p.w ⊗ u.z ⊖ p.z }

abbrev pub throughE : VectorE → VectorE → TupleE
throughE n u = record { x = n.x; y = n.y; z = n.z; w = dotE n u }

abbrev pub supportE : VectorE → VectorE → VectorE → TupleE
supportE a b c = throughE (crossE (minusE b a) (minusE c a)) a

abbrev pub edgeE : VectorE → VectorE → VectorE → TupleE
edgeE u v f = throughE (crossE (minusE v u) f) u

-- the value of a plane through an edge, by the edge's ends seen from the point
pub edge_value : (u v : Corner) (f : Vector) (p : Spot) → p.w *ℤ value_at (edge_through u v f) p ≡ neg_ℤ (dot f (cross (seen p u) (seen p v)))
edge_value u v f p =
    identity (vector ∷ vector ∷ vector ∷ tuple ∷ [])
    (λ u v f p. p.w ⊗ valueE (edgeE u v f) p ≈ neg (dotE f (crossE (seenE p u) (seenE p v)))) cancels (vector_of u)
    (vector_of v) f (tuple_of p)

-- the value of a support plane at a point, as a determinant of the corners seen from there
pub support_value : (t : Tri) (p : Spot) → det (seen p t.a) (seen p t.b) (seen p t.c) ≡ neg_ℤ (p.w *ℤ p.w *ℤ value_at (support_of t) p)
support_value t p =
    identity (vector ∷ vector ∷ vector ∷ tuple ∷ [])
    (λ a b c p. detE (seenE p a) (seenE p b) (seenE p c) ≈ neg (p.w ⊗ p.w ⊗ valueE (supportE a b c) p)) cancels
    (vector_of t.a) (vector_of t.b) (vector_of t.c) (tuple_of p)

-- a triangle's normal, seen from a point, by its support plane
pub normal_value : (t : Tri) (f : Vector) (p : Spot) →
    dot f (normal (seen p t.a) (seen p t.b) (seen p t.c)) ≡ p.w *ℤ p.w *ℤ dot (cross_product (support_of t)) f
normal_value t f p =
    identity (vector ∷ vector ∷ vector ∷ tuple ∷ vector ∷ [])
    (λ a b c p f. dotE f (normalE (seenE p a) (seenE p b) (seenE p c)) ≈ p.w ⊗ p.w ⊗ dotE
    (vector_partE (supportE a b c)) f) cancels (vector_of t.a) (vector_of t.b) (vector_of t.c) (tuple_of p) f

-- the opposite plane has the opposite value
pub value-opposite : (p : Plane) (v : Spot) → value_at (opposite p) v ≡ neg_ℤ (value_at p v)
value-opposite p v =
    solve 8 (λ a b c d x y z w. neg a ⊗ x ⊕ neg b ⊗ y ⊕ neg c ⊗ z ⊖ neg d ⊗ w ≈ neg (a ⊗ x ⊕ b ⊗ y ⊕ c ⊗ z ⊖ d ⊗ w)) cancels p.a p.b p.c p.d v.x v.y v.z v.w
