-- The support planes of two triangles with a common edge.
use Rattle.std.proofs.Common.{◌≡◌, ◌⊎◌, inl, inr, refl, sym, ◌∙◌, arith, [], ◌∷◌, ℤ, pos, ◌-ℤ◌, ◌*ℤ◌, neg_ℤ, ◌<ℤ◌}
use Rattle.ember_algebra.proofs.Laws.{linear}
use Rattle.ember_algebra.proofs.Order.{by_sign, mul_neg_pos, mul_pos_neg}
use Rattle.ember_algebra.proofs.Ring.{◌⊕◌, ◌⊖◌, ◌⊗◌, ◌≈◌, num, neg, solve, cancels}
use Rattle.ember_algebra.specs.Vector.{Vector, dot}
use Rattle.ember_algebra.proofs.Vectors.{vector, identity, dotE, vector_partE, valueE}
use Rattle.ember_model.specs.declared.plane.Plane.{Plane}
use Rattle.ember_model.specs.declared.point.Corner.{Corner}
use Rattle.ember_model.specs.declared.point.Spot.{Spot}
use Rattle.ember_model.specs.declared.point.Axis.{Axis}
use Rattle.ember_model.specs.declared.point.Axis.TheVariants.{X, Y, Z}
use Rattle.ember_model.specs.declared.tri.Tri.{Tri}
use Rattle.ember_model.specs.Planes.{vector_of, value_at, along, support_of, edge_through, times_plane}
use Rattle.ember_model.specs.Owners.{spot_of_corner}
use Rattle.ember_model.proofs.SignTests.{zero_scaled, zero_times}
use Rattle.ember_model.proofs.PlaneValues.{cross_product, supportE, edgeE}
use Rattle.ember_model.proofs.Tuples.{same_plane, cornerE}
use Rattle.ember_alone.proofs.Frames.{IsTurned, from_a, from_b, from_c}

-- ---- the support plane, with any edge taken as the first
-- a triangle with these corners
abbrev pub made : Corner → Corner → Corner → Tri
made u v w = record { a = u; b = v; c = w; mesh = 0 }

turned_support : (a b c : Corner) → support_of (made a b c) ≡ support_of (made b c a)
turned_support a b c =
    let s = vector ∷ vector ∷ vector ∷ [] in let x = vector_of a in let y = vector_of b in let z = vector_of c in
    same_plane (identity s (λ a b c. (supportE a b c).x ≈ (supportE b c a).x) cancels x y z)
    (identity s (λ a b c. (supportE a b c).y ≈ (supportE b c a).y) cancels x y z)
    (identity s (λ a b c. (supportE a b c).z ≈ (supportE b c a).z) cancels x y z)
    (identity s (λ a b c. (supportE a b c).w ≈ (supportE b c a).w) cancels x y z)

-- the same plane as of the corners in order
pub support_is : (t : Tri) (u v w : Corner) → IsTurned t u v w → support_of t ≡ support_of (made u v w)
support_is t u v w (from_a p q r) = λ i. support_of (made (sym p i) (sym q i) (sym r i))
support_is t u v w (from_b p q r) = turned_support t.a t.b t.c ∙ (λ i. support_of (made (sym p i) (sym q i) (sym r i)))
support_is t u v w (from_c p q r) =
    turned_support t.a t.b t.c ∙ turned_support t.b t.c t.a ∙ (λ i. support_of (made (sym p i) (sym q i) (sym r i)))

-- the plane is 0 at the first corner
pub zero_at_first : (u v w : Corner) → value_at (support_of (made u v w)) (spot_of_corner u) ≡ pos 0
zero_at_first u v w =
    identity (vector ∷ vector ∷ vector ∷ []) (λ u v w. valueE (supportE u v w) (cornerE u) ≈ num (pos 0)) cancels
    (vector_of u) (vector_of v) (vector_of w)

-- at the second
pub zero_at_second : (u v w : Corner) → value_at (support_of (made u v w)) (spot_of_corner v) ≡ pos 0
zero_at_second u v w =
    identity (vector ∷ vector ∷ vector ∷ []) (λ u v w. valueE (supportE u v w) (cornerE v) ≈ num (pos 0)) cancels
    (vector_of u) (vector_of v) (vector_of w)

-- and at the third
pub zero_at_third : (u v w : Corner) → value_at (support_of (made u v w)) (spot_of_corner w) ≡ pos 0
zero_at_third u v w =
    identity (vector ∷ vector ∷ vector ∷ []) (λ u v w. valueE (supportE u v w) (cornerE w) ≈ num (pos 0)) cancels
    (vector_of u) (vector_of v) (vector_of w)

-- of two triangles with a common edge, each has the other's third corner as far in front
pub same_depth : (u v w z : Corner) → value_at (support_of (made u v w)) (spot_of_corner z) ≡ value_at (support_of (made v u z)) (spot_of_corner w)
same_depth u v w z =
    identity (vector ∷ vector ∷ vector ∷ vector ∷ [])
    (λ u v w z. valueE (supportE u v w) (cornerE z) ≈ valueE (supportE v u z) (cornerE w)) cancels (vector_of u)
    (vector_of v) (vector_of w) (vector_of z)

-- their normals are parallel if the depth is 0
pub across_x : (u v w z : Corner) → let g = support_of (made u v w) in let h = support_of (made v u z) in
    g.b *ℤ h.c -ℤ g.c *ℤ h.b ≡ neg_ℤ (value_at g (spot_of_corner z) *ℤ (v.x -ℤ u.x))
across_x u v w z =
    identity (vector ∷ vector ∷ vector ∷ vector ∷ [])
    (λ u v w z. (supportE u v w).y ⊗ (supportE v u z).z ⊖ (supportE u v w).z ⊗ (supportE v u z).y ≈ neg
    (valueE (supportE u v w) (cornerE z) ⊗ (v.x ⊖ u.x))) cancels (vector_of u) (vector_of v) (vector_of w) (vector_of z)

-- the same for the second entry
pub across_y : (u v w z : Corner) → let g = support_of (made u v w) in let h = support_of (made v u z) in
    g.c *ℤ h.a -ℤ g.a *ℤ h.c ≡ neg_ℤ (value_at g (spot_of_corner z) *ℤ (v.y -ℤ u.y))
across_y u v w z =
    identity (vector ∷ vector ∷ vector ∷ vector ∷ [])
    (λ u v w z. (supportE u v w).z ⊗ (supportE v u z).x ⊖ (supportE u v w).x ⊗ (supportE v u z).z ≈ neg
    (valueE (supportE u v w) (cornerE z) ⊗ (v.y ⊖ u.y))) cancels (vector_of u) (vector_of v) (vector_of w) (vector_of z)

-- and for the third
pub across_z : (u v w z : Corner) → let g = support_of (made u v w) in let h = support_of (made v u z) in
    g.a *ℤ h.b -ℤ g.b *ℤ h.a ≡ neg_ℤ (value_at g (spot_of_corner z) *ℤ (v.z -ℤ u.z))
across_z u v w z =
    identity (vector ∷ vector ∷ vector ∷ vector ∷ [])
    (λ u v w z. (supportE u v w).x ⊗ (supportE v u z).y ⊖ (supportE u v w).y ⊗ (supportE v u z).x ≈ neg
    (valueE (supportE u v w) (cornerE z) ⊗ (v.z ⊖ u.z))) cancels (vector_of u) (vector_of v) (vector_of w) (vector_of z)

-- entries of two parallel normals
pub same_slope : (g h : Plane) → g.b *ℤ h.c ≡ g.c *ℤ h.b → g.c *ℤ h.a ≡ g.a *ℤ h.c → g.a *ℤ h.b ≡ g.b *ℤ h.a → (j k : Axis) →
    along g j *ℤ along h k ≡ along g k *ℤ along h j
same_slope g h x y z X X = refl
same_slope g h x y z X Y = z
same_slope g h x y z X Z = sym y
same_slope g h x y z Y X = sym z
same_slope g h x y z Y Y = refl
same_slope g h x y z Y Z = x
same_slope g h x y z Z X = y
same_slope g h x y z Z Y = sym x
same_slope g h x y z Z Z = refl

-- an edge plane the other way round, at the third corner
pub edge_back : (u v w : Corner) (f : Vector) → value_at (edge_through v u f) (spot_of_corner w) ≡ dot (cross_product (support_of (made u v w))) f
edge_back u v w f =
    identity (vector ∷ vector ∷ vector ∷ vector ∷ [])
    (λ u v w f. valueE (edgeE v u f) (cornerE w) ≈ dotE (vector_partE (supportE u v w)) f) cancels (vector_of u)
    (vector_of v) (vector_of w) f

-- factors of a positive product have one sign
pub one_sign : (a b : ℤ) → pos 0 <ℤ (a *ℤ b) → ((pos 0 <ℤ a) × (pos 0 <ℤ b)) ⊎ ((a <ℤ pos 0) × (b <ℤ pos 0))
one_sign a b l =
    by_sign a
    (λ p. by_sign b (λ q. inl (p, q)) (λ e. absurd (let o = zero_scaled a b e in omega (arith, linear, o, l)))
    (λ q. absurd (let o = mul_pos_neg p q in omega (arith, linear, o, l))))
    (λ e. absurd (let o = zero_times a b e in omega (arith, linear, o, l)))
    (λ p. by_sign b (λ q. absurd (let o = mul_neg_pos p q in omega (arith, linear, o, l)))
    (λ e. absurd (let o = zero_scaled a b e in omega (arith, linear, o, l))) (λ q. inr (p, q)))

-- a tuple at which all numbers are 0: a direction, if it is moved
abbrev pub nowhere : Spot
nowhere = record { x = pos 0; y = pos 0; z = pos 0; w = pos 0 }

-- planes are 0 there
pub value_nowhere : (g : Plane) → value_at g nowhere ≡ pos 0
value_nowhere g = solve 4 (λ a b c d. a ⊗ num (pos 0) ⊕ b ⊗ num (pos 0) ⊕ c ⊗ num (pos 0) ⊖ d ⊗ num (pos 0) ≈ num (pos 0)) cancels g.a g.b g.c g.d

-- the entry of a multiple of a plane
pub along_times : (s : ℤ) (n : Plane) (k : Axis) → along (times_plane s n) k ≡ s *ℤ along n k
along_times s n X = refl
along_times s n Y = refl
along_times s n Z = refl
