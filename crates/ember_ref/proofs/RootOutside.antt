-- The reference point of the root box lies outside all meshes.
use Rattle.std.proofs.Common.{◌≡◌, inl, inr, ◌⊎◌, refl, ap, ◌∙◌, arith, ℕ, ◌<◌, Bool, true, false, cond, ◌&&◌, List, get_or}
use Rattle.std.proofs.Common.{replicate, ℤ, pos, negsuc, ◌+ℤ◌, ◌*ℤ◌, neg_ℤ, ◌<ℤ◌, ◌≤ℤ◌}
use borrow.Author.Differences.{ints}
use Rattle.ember_algebra.specs.Size.{Small}
use Rattle.ember_algebra.specs.Sign.{sign, is_negative}
use Rattle.ember_algebra.proofs.Laws.{linear}
use Rattle.ember_algebra.proofs.Order.{pos_mul, nonneg_mul, mul_le, by_sign}
use Rattle.ember_algebra.proofs.Ring.{◌⊕◌, ◌⊗◌, ◌≈◌, num, neg, solve, cancels}
use Rattle.ember_model.specs.declared.point.Spot.{Spot}
use Rattle.ember_algebra.specs.Vector.{Vector}
use Rattle.ember_model.specs.declared.point.Axis.TheVariants.{X, Y}
use Rattle.ember_model.specs.declared.face.Face.{Face}
use Rattle.ember_model.specs.declared.tri.Tri.{Tri}
use Rattle.ember_model.specs.Planes.{value_at, along}
use Rattle.ember_model.specs.Faces.{size, is_flat, face_of, is_inside, hit, crossing}
use Rattle.ember_model.specs.Limits.{narrow_limit}
use Rattle.ember_model.specs.Valid.{IsValidTri}
use Rattle.ember_model.specs.Within.{IsTriWithin}
use Rattle.ember_model.specs.Meshes.{meshes, IsScene}
use Rattle.ember_model.proofs.SignTests.{zero_times, size_nonnegative}
use Rattle.ember_model.proofs.Hits.{inside_parts, inside_closed}
use Rattle.ember_law.proofs.FlatTriangles.{flat_case, flat_out, flat_crossing}
use Rattle.ember_law.proofs.Tallies.{tally_zero}
use Rattle.ember_width.specs.Scenes.{IsSceneWithin}
use Rattle.ember_box.specs.Boxes.{low, root, in_steps}
use Rattle.ember_box.specs.Reference.{reference_beside, vector_beside, reference, vector_at}
use Rattle.ember_ref.proofs.NearPoints.{past_corners}

-- y lies below -m times the weight, so k * y does
below_all : (m k y w : ℤ) → pos 0 ≤ℤ k → (y +ℤ m *ℤ w) <ℤ pos 0 → (neg_ℤ m *ℤ (k *ℤ w)) ≤ℤ (pos 1 *ℤ (k *ℤ y)) → pos 0 <ℤ (k *ℤ w) → ⊥
below_all m k y w a l h p =
    by_sign k
    (λ q. let n : pos 0 <ℤ neg_ℤ (y +ℤ m *ℤ w) = omega (arith, linear) in let r = pos_mul q n in
    omega (arith, linear, h, r, solve 4 (λ m k y w. k ⊗ neg (y ⊕ m ⊗ w) ⊕ num (pos 1) ⊗ (k ⊗ y) ≈ neg m ⊗ (k ⊗ w)) cancels m k y w))
    (λ z. let e = zero_times k w z in omega (arith, linear, e, p))
    (λ q. omega (arith, linear))

-- a number of at most m in size is not below -m
pub at_least : {m : ℕ} (z : ℤ) → Small m z → neg_ℤ (pos m) ≤ℤ (pos 1 *ℤ z)
at_least (pos n) s = omega (arith, ints)
at_least (negsuc n) s = omega (arith, ints, s.small)

crossing_outside : (f : Face) (p : Spot) → is_inside f (hit f.support X p) ≡ false → crossing f X p ≡ pos 0
unfolding crossing
crossing_outside f p e =
    ap (λ (b : Bool). cond (is_negative (value_at f.support p *ℤ along f.support X) && b) (sign (along f.support X))
    (pos 0)) e ∙ none (is_negative (value_at f.support p *ℤ along f.support X))
  where
    none : (b : Bool) → cond (b && false) (sign (along f.support X)) (pos 0) ≡ pos 0
    none true = refl
    none false = refl

-- a ray along x from a point below all corners meets no face
crossing_below : (m : ℕ) (t : Tri) (p : Spot) → IsTriWithin m t → (p.y +ℤ pos m *ℤ p.w) <ℤ pos 0 → crossing (face_of t) X p ≡ pos 0
crossing_below m t p v l = by (flat_case t)
  where
    outside : is_flat t ≡ false → (b : Bool) → is_inside (face_of t) (hit (face_of t).support X p) ≡ b →
        is_inside (face_of t) (hit (face_of t).support X p) ≡ false
    outside nf true e =
        let k = size (along (face_of t).support X) in let x = hit (face_of t).support X p in
        let h = past_corners Y (pos 1) (neg_ℤ (pos m)) t x nf (at_least t.a.y v.a.y) (at_least t.b.y v.b.y)
        (at_least t.c.y v.c.y) (inside_closed (face_of t) x e) in
        absurd (below_all (pos m) k p.y p.w (size_nonnegative (along (face_of t).support X)) l h (inside_parts (face_of t) x e).0)
    outside nf false e = e

    by : (is_flat t ≡ true) ⊎ (is_flat t ≡ false) → crossing (face_of t) X p ≡ pos 0
    by (inl e) = flat_crossing X p t (flat_out t e)
    by (inr e) = crossing_outside (face_of t) p (outside e (is_inside (face_of t) (hit (face_of t).support X p)) refl)

-- ---- the root in steps
-- beside a corner that lies below all corners of triangles within m
below_corner : (m f : ℕ) (v : Vector) → 1 < f → (v.y +ℤ pos m) <ℤ pos 0 →
    ((reference_beside f v).y +ℤ pos m *ℤ (reference_beside f v).w) <ℤ pos 0
below_corner m f v above l =
    let g = pos f in let z : pos 0 ≤ℤ g = omega (arith, ints) in let square = nonneg_mul z z in
    let two : pos 2 ≤ℤ g = omega (arith, ints, above) in let one : pos 1 ≤ℤ g = omega (arith, ints, above) in
    let a = mul_le z two in let b = mul_le square one in let whole = nonneg_mul square z in
    let down : (v.y +ℤ pos m) ≤ℤ neg_ℤ (pos 1) = omega (arith, ints, l) in
    let c = mul_le whole down in
    omega (
      arith,
      linear,
      a,
      b,
      c,
      two,
      solve 3 (λ g y m. g ⊗ g ⊗ g ⊗ (y ⊕ m) ≈ g ⊗ g ⊗ g ⊗ y ⊕ m ⊗ (g ⊗ g ⊗ g ⊗ num (pos 1))) cancels g v.y (pos m),
      solve 1 (λ w. w ⊗ neg (num (pos 1)) ≈ neg w) cancels (g *ℤ g *ℤ g),
      solve 1 (λ g. g ⊗ num (pos 2) ≈ g ⊕ g) cancels g,
      solve 1 (λ g. g ⊗ num (pos 1) ≈ g) cancels (g *ℤ g),
    )

-- the reference point of the root, of which a unit has 2^n steps, is outside all meshes within it
pub root_is_outside_within : (n m f : ℕ) (ts : List Tri) → 1 < f → (low (in_steps n root) Y +ℤ pos m) <ℤ pos 0 →
    IsSceneWithin m ts 64 → vector_beside f ts (in_steps n root) ≡ replicate 64 (pos 0)
unfolding meshes
root_is_outside_within n m f ts above l s =
    let p = reference_beside f (in_steps n root).lo in
    tally_zero (λ h. crossing h X p) (flat_crossing X p) ts (λ i d k. crossing_below m (get_or ts i d) p (s.within i d k)
    (below_corner m f (in_steps n root).lo above l))

-- on the narrow grid
root_crossing : (t : Tri) → IsValidTri t → crossing (face_of t) X (reference root) ≡ pos 0
root_crossing t v = crossing_below narrow_limit t (reference root) v (omega (arith, ints))

-- the root's reference point is outside all meshes
pub root_is_outside : (ts : List Tri) (n : ℕ) → IsScene ts n → vector_at ts root ≡ replicate 64 (pos 0)
unfolding meshes
root_is_outside ts n s =
    tally_zero (λ f. crossing f X (reference root)) (flat_crossing X (reference root)) ts (λ i d l. root_crossing (get_or ts i d) (s.valid i d l))
