-- Points of a plane as seen from one of them: their heights over a ray in the plane, and their turns.
use Rattle.std.proofs.Common.{◌≡◌, sym, ap, subst, ◌∙◌, Bool, T, [], ◌∷◌, ℤ, pos, ◌+ℤ◌, ◌-ℤ◌, ◌*ℤ◌, neg_ℤ, ◌<ℤ◌}
use Rattle.ember_algebra.specs.Vector.{Vector, zero_v, scale_v, dot, cross}
use Rattle.ember_algebra.specs.declared.Sign.{Sign}
use Rattle.ember_algebra.specs.Sign.{sgn}
use Rattle.ember_algebra.proofs.Ring.{◌⊕◌, ◌⊖◌, ◌⊗◌, ◌≈◌, num, neg, cancels}
use Rattle.ember_algebra.proofs.Signs.{may_sum}
use Rattle.ember_algebra.proofs.Vectors.{scalar, vector, tuple, identity, dotE, crossE, scaleE, vector_partE, detE}
use Rattle.ember_model.specs.declared.plane.Plane.{Plane}
use Rattle.ember_model.specs.declared.point.Spot.{Spot}
use Rattle.ember_model.specs.Edges.{normal}
use Rattle.ember_model.specs.Planes.{value_at}
use Rattle.ember_model.proofs.SignTests.{sgn_scaled}
use Rattle.ember_model.proofs.Tuples.{spot_tuple}
use Rattle.ember_model.specs.Points.{displacement}
use Rattle.ember_model.proofs.Displacements.{displacementE}
use Rattle.ember_meaning.proofs.Displacements.{zeroE}
use Rattle.mesh_certificate.specs.Certificate.Facing.{triangle_normal}
use Rattle.mesh_solid.specs.Winding.TriangleFaces.{side_plane}
use Rattle.mesh_solid.proofs.Passings.{passing}

-- ---- words
-- the area of two vectors as seen from the front of n, times a positive number: positive if the second is to the left
-- of the first
unfoldable pub area : Plane → Vector → Vector → ℤ
area n a b = dot (normal n) (cross a b)

-- how high u lies over the ray from x along e, which is to its right
abbrev pub height : Plane → Vector → Spot → Spot → ℤ
height n e x u = area n e (displacement x u)

-- positive if v is to the left of u, as seen from x
abbrev pub turn_at : Plane → Spot → Spot → Spot → ℤ
turn_at n x u v = area n (displacement x u) (displacement x v)

-- how the ray from x along e passes the way from u to v
abbrev pub passing_at : Plane → Vector → Spot → Spot → Spot → ℤ
passing_at n e x u v = passing (sgn (height n e x u)) (sgn (height n e x v)) (sgn (turn_at n x u v))

-- ---- two corners
-- how the height changes over the way from u to v
pub height_step : (n : Plane) (e : Vector) (x u v : Spot) → u.w *ℤ height n e x v -ℤ v.w *ℤ height n e x u ≡ x.w *ℤ area n e (displacement u v)
unfolding area
height_step n e x u v =
    identity (vector ∷ vector ∷ tuple ∷ tuple ∷ tuple ∷ [])
    (λ n e x u v. u.w ⊗ detE n e (displacementE x v) ⊖ v.w ⊗ detE n e (displacementE x u) ≈ x.w ⊗ detE n e
    (displacementE u v)) cancels (normal n) e (spot_tuple x) (spot_tuple u) (spot_tuple v)

-- the turn, by the way from u to v
pub turn_step : (n : Plane) (x u v : Spot) → u.w *ℤ turn_at n x u v ≡ x.w *ℤ area n (displacement x u) (displacement u v)
unfolding area
turn_step n x u v =
    identity (vector ∷ tuple ∷ tuple ∷ tuple ∷ [])
    (λ n x u v. u.w ⊗ detE n (displacementE x u) (displacementE x v) ≈ x.w ⊗ detE n (displacementE x u)
    (displacementE u v)) cancels (normal n) (spot_tuple x) (spot_tuple u) (spot_tuple v)

pub turn_back : (n : Plane) (x u v : Spot) → turn_at n x v u ≡ neg_ℤ (turn_at n x u v)
unfolding area
turn_back n x u v =
    identity (vector ∷ tuple ∷ tuple ∷ tuple ∷ [])
    (λ n x u v. detE n (displacementE x v) (displacementE x u) ≈ neg
    (detE n (displacementE x u) (displacementE x v))) cancels (normal n) (spot_tuple x) (spot_tuple u) (spot_tuple v)

-- ---- three corners
-- x is the mean of the corners, weighted by the turns of the opposite sides, so that its height, 0, is that of theirs
pub heights_balance : (n : Plane) (e : Vector) (x u v w : Spot) →
    turn_at n x v w *ℤ height n e x u +ℤ turn_at n x w u *ℤ height n e x v +ℤ turn_at n x u v *ℤ height n e x w ≡ pos 0
unfolding area
heights_balance n e x u v w =
    identity (vector ∷ vector ∷ vector ∷ vector ∷ vector ∷ [])
    (λ n e u v w. detE n v w ⊗ detE n e u ⊕ detE n w u ⊗ detE n e v ⊕ detE n u v ⊗ detE n e w ≈ num (pos 0))
    cancels (normal n) e (displacement x u) (displacement x v) (displacement x w)

-- the turns add up to the triangle's area
pub turns_add : (n : Plane) (x u v w : Spot) → u.w *ℤ
    (w.w *ℤ turn_at n x u v +ℤ u.w *ℤ turn_at n x v w +ℤ v.w *ℤ turn_at n x w u) ≡ (x.w *ℤ x.w) *ℤ dot (normal n)
    (triangle_normal u v w)
unfolding area
turns_add n x u v w =
    identity (vector ∷ tuple ∷ tuple ∷ tuple ∷ tuple ∷ [])
    (λ n x u v w. u.w ⊗ (w.w ⊗ detE n (displacementE x u) (displacementE x v) ⊕ u.w ⊗ detE n (displacementE x v)
    (displacementE x w) ⊕ v.w ⊗ detE n (displacementE x w) (displacementE x u)) ≈ (x.w ⊗ x.w) ⊗ detE n
    (displacementE u v) (displacementE u w)) cancels (normal n) (spot_tuple x) (spot_tuple u) (spot_tuple v)
    (spot_tuple w)

-- the plane of a side, by the turn
pub side_value : (n : Plane) (x u v : Spot) → u.w *ℤ turn_at n x u v ≡ neg_ℤ (x.w *ℤ value_at (side_plane n u v) x)
unfolding area
side_value n x u v =
    identity (vector ∷ tuple ∷ tuple ∷ tuple ∷ []) (λ n x u v. let k = crossE (displacementE u v) n in
    u.w ⊗ detE n (displacementE x u) (displacementE x v) ≈ neg
    (x.w ⊗ ((u.w ⊗ k.x) ⊗ x.x ⊕ (u.w ⊗ k.y) ⊗ x.y ⊕ (u.w ⊗ k.z) ⊗ x.z ⊖ dotE k (vector_partE u) ⊗ x.w))) cancels
    (normal n) (spot_tuple x) (spot_tuple u) (spot_tuple v)

-- ---- along the course of an edge, which is normal to both its planes
pub area_course : (n : Plane) (a g : Vector) → area n a (cross (normal n) g) ≡ dot (normal n) (normal n) *ℤ dot a g -ℤ dot (normal n) g *ℤ dot a (normal n)
unfolding area
area_course n a g =
    identity (vector ∷ vector ∷ vector ∷ []) (λ n a g. detE n a (crossE n g) ≈ dotE n n ⊗ dotE a g ⊖ dotE n g ⊗ dotE a n) cancels (normal n) a g

-- an area is a product with the second vector
pub area_dot : (n : Plane) (a b : Vector) → area n a b ≡ dot (cross (normal n) a) b
unfolding area
area_dot n a b =
    identity (vector ∷ vector ∷ vector ∷ []) (λ n a b. detE n a b ≈ dotE (crossE n a) b) cancels (normal n) a b

-- an area with a multiple, and one with no vector
pub area_scale : (n : Plane) (a : Vector) (k : ℤ) (b : Vector) → area n a (scale_v k b) ≡ k *ℤ area n a b
unfolding area
area_scale n a k b =
    identity (vector ∷ vector ∷ scalar ∷ vector ∷ []) (λ n a k b. detE n a (scaleE k b) ≈ k ⊗ detE n a b) cancels (normal n) a k b

pub area_none : (n : Plane) (a : Vector) → area n a zero_v ≡ pos 0
unfolding area
area_none n a = identity (vector ∷ vector ∷ []) (λ n a. detE n a zeroE ≈ num (pos 0)) cancels (normal n) a

-- a point of the ray is at height 0
pub height_on_ray : (n : Plane) (e : Vector) (x : Spot) (a b : ℤ) →
    height n e x (record {
      x = a *ℤ x.x +ℤ b *ℤ e.x;
      y = a *ℤ x.y +ℤ b *ℤ e.y;
      z = a *ℤ x.z +ℤ b *ℤ e.z;
      w =
          a *ℤ x.w +ℤ b *ℤ pos 0;
    }) ≡ pos 0
unfolding area
height_on_ray n e x a b =
    identity (vector ∷ vector ∷ tuple ∷ scalar ∷ scalar ∷ [])
    (λ n e x a b. detE n e (displacementE x (record {
      x = a ⊗ x.x ⊕ b ⊗ e.x;
      y = a ⊗ x.y ⊕ b ⊗ e.y;
      z =
          a ⊗ x.z ⊕ b ⊗ e.z;
      w = a ⊗ x.w ⊕ b ⊗ num (pos 0);
    })) ≈ num (pos 0)) cancels (normal n) e (spot_tuple x) a b

-- ---- signs
-- the sign of the change over a way, if it is that of a number
pub turn_sign : (n : Plane) (x u v : Spot) → pos 0 <ℤ x.w → pos 0 <ℤ u.w → sgn (turn_at n x u v) ≡ sgn (area n (displacement x u) (displacement u v))
turn_sign n x u v wx wu =
    sym (sgn_scaled (turn_at n x u v) wu) ∙ ap sgn (turn_step n x u v) ∙ sgn_scaled (area n (displacement x u) (displacement u v)) wx

pub step_sign : (n : Plane) (e : Vector) (x u v : Spot) → pos 0 <ℤ x.w →
    sgn (u.w *ℤ height n e x v -ℤ v.w *ℤ height n e x u) ≡ sgn (area n e (displacement u v))
step_sign n e x u v wx = ap sgn (height_step n e x u v) ∙ sgn_scaled (area n e (displacement u v)) wx

-- signs that fit together, by signs that are the same
pub may_sums : {a b c s t r : Sign} → a ≡ s → b ≡ t → c ≡ r → T (may_sum a b c) → T (may_sum s t r)
may_sums p q r h = subst (λ (x : Bool). T x) (λ i. may_sum (p i) (q i) (r i)) h
