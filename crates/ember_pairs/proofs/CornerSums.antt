-- A sum of a triangle's corners with weights lies in the closed face, or inside if all weights are positive.
use Rattle.std.proofs.Common.{◌≡◌, ◌∙◌, arith, true, false, ℤ, pos, ◌+ℤ◌, ◌-ℤ◌, ◌*ℤ◌, neg_ℤ, ◌<ℤ◌, ◌≤ℤ◌}
use Rattle.std.specs.List.{AllByRecursion}
use Rattle.ember_algebra.proofs.Laws.{linear}
use Rattle.ember_algebra.proofs.Order.{nonneg_mul}
use Rattle.ember_algebra.proofs.Ring.{◌⊕◌, ◌⊖◌, ◌⊗◌, ◌≈◌, neg, num, solve, cancels}
use Rattle.ember_model.specs.declared.face.Face.{Face}
use Rattle.ember_model.specs.declared.plane.Plane.{Plane}
use Rattle.ember_model.specs.declared.tri.Tri.{Tri}
use Rattle.ember_model.specs.Planes.{value_at}
use Rattle.ember_model.specs.Faces.{is_flat, face_of, is_inside, is_in_closed}
use Rattle.ember_model.specs.Owners.{spot_of_corner}
use Rattle.ember_poly.specs.Rings.{IsBelow, IsNotAbove}
use Rattle.ember_poly.proofs.Chains.{each_map}
use Rattle.ember_poly.proofs.FaceTests.{inside_in, closed_in}
use Rattle.ember_poly.proofs.TriangleRing.{stands}
use Rattle.ember_width.specs.declared.heights.Heights.{Heights}
use Rattle.ember_pairs.specs.declared.samples.Weights.{Weights}
use Rattle.ember_pairs.specs.declared.chords.CornerName.{CornerName}
use Rattle.ember_pairs.specs.declared.chords.CornerName.TheVariants.{A, B, C}
use Rattle.ember_width.specs.Heights.{heights_of}
use Rattle.ember_pairs.specs.Samples.{sample_point, sample_height}
use Rattle.ember_pairs.specs.Chords.{turned}

-- ---- heights at a sum
-- the value of a plane at a sum of corners is the sum of those at the corners, each times its weight
pub value_at_sum : (p : Plane) (t : Tri) (w : Weights) → value_at p (sample_point t w) ≡ sample_height (heights_of p t) w
value_at_sum p t w =
    by w.a w.b w.c p.a p.b p.c p.d t.a.x t.a.y t.a.z t.b.x t.b.y t.b.z t.c.x t.c.y t.c.z
  where
    by : (i j k a b c d x y z u v q r s o : ℤ) →
        (a *ℤ (i *ℤ x +ℤ j *ℤ u +ℤ k *ℤ r) +ℤ b *ℤ (i *ℤ y +ℤ j *ℤ v +ℤ k *ℤ s) +ℤ c *ℤ (i *ℤ z +ℤ j *ℤ q +ℤ k *ℤ o) -ℤ d
        *ℤ (i *ℤ pos 1 +ℤ j *ℤ pos 1 +ℤ k *ℤ pos 1))
        ≡ (i *ℤ (a *ℤ x +ℤ b *ℤ y +ℤ c *ℤ z -ℤ d *ℤ pos 1) +ℤ j *ℤ (a *ℤ u +ℤ b *ℤ v +ℤ c *ℤ q -ℤ d *ℤ pos 1) +ℤ k *ℤ
        (a *ℤ r +ℤ b *ℤ s +ℤ c *ℤ o -ℤ d *ℤ pos 1))
    by = solve 16 (λ i j k a b c d x y z u v q r s o. a ⊗ (i ⊗ x ⊕ j ⊗ u ⊕ k ⊗ r) ⊕ b ⊗ (i ⊗ y ⊕ j ⊗ v ⊕ k ⊗ s) ⊕ c ⊗
        (i ⊗ z ⊕ j ⊗ q ⊕ k ⊗ o) ⊖ d ⊗ (i ⊗ num (pos 1) ⊕ j ⊗ num (pos 1) ⊕ k ⊗ num (pos 1)) ≈ i ⊗
        (a ⊗ x ⊕ b ⊗ y ⊕ c ⊗ z ⊖ d ⊗ num (pos 1)) ⊕ j ⊗ (a ⊗ u ⊕ b ⊗ v ⊕ c ⊗ q ⊖ d ⊗ num (pos 1)) ⊕ k ⊗
        (a ⊗ r ⊕ b ⊗ s ⊕ c ⊗ o ⊖ d ⊗ num (pos 1))) cancels

-- weights of which none is negative, and one is positive
pub record AreNotNegative (w : Weights) : Type 0 where
  pub a : pos 0 ≤ℤ w.a
  pub b : pos 0 ≤ℤ w.b
  pub c : pos 0 ≤ℤ w.c
  pub some : pos 0 <ℤ (w.a +ℤ w.b +ℤ w.c)

-- weights that are all positive
pub record ArePositive (w : Weights) : Type 0 where
  pub a : pos 0 <ℤ w.a
  pub b : pos 0 <ℤ w.b
  pub c : pos 0 <ℤ w.c

-- positive weights aren't negative
pub positive_weights_are_not_negative : {w : Weights} → ArePositive w → AreNotNegative w
positive_weights_are_not_negative {w} k =
    record { a = omega (arith, linear, k.a); b = omega (arith, linear, k.b); c = omega (arith, linear, k.c); some = omega (arith, linear, k.a, k.b, k.c) }

-- heights of which none is positive, and one is negative
pub record LeanBack (h : Heights) : Type 0 where
  pub a : h.a ≤ℤ pos 0
  pub b : h.b ≤ℤ pos 0
  pub c : h.c ≤ℤ pos 0
  pub some : (h.a +ℤ h.b +ℤ h.c) <ℤ pos 0

-- multiples of 0 add up to 0
pub sum_of_zeros : (w : Weights) (h : Heights) → h.a ≡ pos 0 → h.b ≡ pos 0 → h.c ≡ pos 0 → sample_height h w ≡ pos 0
sum_of_zeros w h ea eb ec = rw (ea, eb, ec) (zeros w.a w.b w.c)
  where
    zeros : (i j k : ℤ) → i *ℤ pos 0 +ℤ j *ℤ pos 0 +ℤ k *ℤ pos 0 ≡ pos 0
    zeros = solve 3 (λ i j k. i ⊗ num (pos 0) ⊕ j ⊗ num (pos 0) ⊕ k ⊗ num (pos 0) ≈ num (pos 0)) cancels

-- a product of a number that isn't negative with one that isn't positive isn't positive
product_is_at_most_zero : {i x : ℤ} → pos 0 ≤ℤ i → x ≤ℤ pos 0 → (i *ℤ x) ≤ℤ pos 0
product_is_at_most_zero {i} {x} p q =
    let m : pos 0 ≤ℤ neg_ℤ x = omega (arith, linear, q) in
    omega (arith, linear, nonneg_mul p m, solve 2 (λ i x. i ⊗ neg x ≈ neg (i ⊗ x)) cancels i x)

-- a positive multiple of a number that isn't positive is at most the number
multiple_is_at_most_number : {i x : ℤ} → pos 0 <ℤ i → x ≤ℤ pos 0 → (i *ℤ x) ≤ℤ x
multiple_is_at_most_number {i} {x} p q =
    let j : pos 0 ≤ℤ (i -ℤ pos 1) = omega (arith, linear, p) in
    omega (arith, linear, product_is_at_most_zero j q, solve 2 (λ i x. (i ⊖ num (pos 1)) ⊗ x ≈ i ⊗ x ⊖ x) cancels i x)

-- a sum of heights of which none is positive isn't positive
pub sum_is_at_most_zero : {h : Heights} {w : Weights} → LeanBack h → AreNotNegative w → sample_height h w ≤ℤ pos 0
sum_is_at_most_zero {h} {w} l k = omega (arith, linear, product_is_at_most_zero k.a l.a, product_is_at_most_zero k.b l.b, product_is_at_most_zero k.c l.c)

-- with positive weights it is negative, if one of the heights is
pub sum_is_negative : {h : Heights} {w : Weights} → LeanBack h → ArePositive w → sample_height h w <ℤ pos 0
sum_is_negative {h} {w} l k =
    omega (arith, linear, multiple_is_at_most_number k.a l.a, multiple_is_at_most_number k.b l.b, multiple_is_at_most_number k.c l.c, l.some)

-- ---- the corners of a face
-- t has the corners of the face f, in some order
pub record HasCornersOf (f : Face) (t : Tri) : Type 0 where
  pub a : value_at f.support (spot_of_corner t.a) ≡ pos 0
  pub b : value_at f.support (spot_of_corner t.b) ≡ pos 0
  pub c : value_at f.support (spot_of_corner t.c) ≡ pos 0
  pub within : AllByRecursion (λ p. LeanBack (heights_of p t)) f.edges

-- a triangle has the corners of its face
pub face_has_triangle_corners : (t : Tri) → is_flat t ≡ false → HasCornersOf (face_of t) t
unfolding face_of
face_has_triangle_corners t full =
    -- a chain from each of the first two edges
    let s = (stands t full).sound in
    let at_b = s.1.0 in let at_c = s.2.0 in let at_a = s.2.3.0 in
    let ab = third at_a.after at_b.before s.1.1.0.under in
    let bc = first s.2.1.0.under at_b.after at_c.before in
    let ca = second at_a.before s.1.2.0.under at_c.after in
    record { a = at_a.flat; b = at_b.flat; c = at_c.flat; within = (ab, (bc, (ca, tt))) }
  where
    first : {x y z : ℤ} → x <ℤ pos 0 → y ≡ pos 0 → z ≡ pos 0 → LeanBack (record { a = x; b = y; c = z })
    first p q r = record { a = omega (arith, linear, p); b = omega (arith, linear, q); c = omega (arith, linear, r); some = omega (arith, linear, p, q, r) }

    second : {x y z : ℤ} → x ≡ pos 0 → y <ℤ pos 0 → z ≡ pos 0 → LeanBack (record { a = x; b = y; c = z })
    second p q r = record { a = omega (arith, linear, p); b = omega (arith, linear, q); c = omega (arith, linear, r); some = omega (arith, linear, p, q, r) }

    third : {x y z : ℤ} → x ≡ pos 0 → y ≡ pos 0 → z <ℤ pos 0 → LeanBack (record { a = x; b = y; c = z })
    third p q r = record { a = omega (arith, linear, p); b = omega (arith, linear, q); c = omega (arith, linear, r); some = omega (arith, linear, p, q, r) }

-- a sum of corners has a positive weight
pub sum_has_positive_weight : (t : Tri) (w : Weights) → AreNotNegative w → pos 0 <ℤ (sample_point t w).w
sum_has_positive_weight t w n = omega (arith, linear, n.some)

module _ (f : Face) (t : Tri) (k : HasCornersOf f t) (w : Weights) where
  -- a sum of the corners is on the face's plane
  flat : value_at f.support (sample_point t w) ≡ pos 0
  flat = value_at_sum f.support t w ∙ sum_of_zeros w (heights_of f.support t) k.a k.b k.c

  -- a sum of the corners with weights that aren't negative is in the closed face
  pub sum_is_closed : AreNotNegative w → is_in_closed f (sample_point t w) ≡ true
  sum_is_closed n =
      closed_in f (sample_point t w) (record {
        flat = flat;
        weight = sum_has_positive_weight t w n;
        within =
            each_map (λ p. LeanBack (heights_of p t)) (λ p. IsNotAbove p (sample_point t w)) f.edges
            (λ p l. record { at_most = rw (value_at_sum p t w) (sum_is_at_most_zero l n) }) k.within;
      })

  -- a sum of the corners with positive weights is an inside point
  pub sum_is_inside : ArePositive w → is_inside f (sample_point t w) ≡ true
  sum_is_inside n =
      inside_in f (sample_point t w) (record {
        flat = flat;
        weight =
            sum_has_positive_weight t w (positive_weights_are_not_negative n);
        within =
            each_map (λ p. LeanBack (heights_of p t)) (λ p. IsBelow p (sample_point t w)) f.edges
            (λ p l. record { under = rw (value_at_sum p t w) (sum_is_negative l n) }) k.within;
      })

-- ---- another corner first
-- the same triangle with this corner first
abbrev pub turned_triangle : CornerName → Tri → Tri
turned_triangle A t = t
turned_triangle B t = record { a = t.b; b = t.c; c = t.a; mesh = t.mesh }
turned_triangle C t = record { a = t.c; b = t.a; c = t.b; mesh = t.mesh }

-- it has the heights of the triangle, but that of this corner first
pub turned_triangle_heights : (name : CornerName) (p : Plane) (t : Tri) → heights_of p (turned_triangle name t) ≡ turned name (heights_of p t)
turned_triangle_heights A p t = λ i. heights_of p t
turned_triangle_heights B p t = λ i. turned B (heights_of p t)
turned_triangle_heights C p t = λ i. turned C (heights_of p t)

-- it has the same corners
pub turned_triangle_corners : (name : CornerName) (f : Face) (t : Tri) → HasCornersOf f t → HasCornersOf f (turned_triangle name t)
turned_triangle_corners A f t k = k
turned_triangle_corners B f t k =
    record {
      a = k.b;
      b = k.c;
      c = k.a;
      within =
          each_map (λ p. LeanBack (heights_of p t)) (λ p. LeanBack (turned B (heights_of p t))) f.edges
          (λ p l. record { a = l.b; b = l.c; c = l.a; some = omega (arith, linear, l.some) }) k.within;
    }
turned_triangle_corners C f t k =
    record {
      a = k.c;
      b = k.a;
      c = k.b;
      within =
          each_map (λ p. LeanBack (heights_of p t)) (λ p. LeanBack (turned C (heights_of p t))) f.edges
          (λ p l. record { a = l.c; b = l.a; c = l.b; some = omega (arith, linear, l.some) }) k.within;
    }
