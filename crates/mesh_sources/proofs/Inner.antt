-- Inner points: triangles of one plane that have one in common aren't apart
use Rattle.std.proofs.Common.{◌≡◌, ◌≢◌, ⊎_elim, refl, sym, ap, ◌∙◌, arith, ℤ, pos, ◌+ℤ◌, ◌-ℤ◌, ◌*ℤ◌, ◌<ℤ◌, ◌≤ℤ◌, [], ◌∷◌}
use Rattle.std.proofs.lemmas.Int.{by_lt_z}
use lib.IntN.{*ℤ-zero}
use Rattle.ember_algebra.specs.Vector.{Vector, dot, cross}
use Rattle.ember_algebra.specs.Det.{det3}
use Rattle.ember_algebra.proofs.Laws.{linear}
use Rattle.ember_algebra.proofs.Order.{by_sign, pos_mul, mul_pos_neg, mul_neg_pos, mul_le, cancel_eq}
use Rattle.ember_algebra.proofs.Ring.{◌⊕◌, ◌⊖◌, ◌⊗◌, ◌≈◌, num, solve, cancels}
use Rattle.ember_algebra.proofs.Cramer.{Det3}
use Rattle.ember_algebra.proofs.Vectors.{vector, tuple, identity, valueE, dotE, crossE, vector_partE}
use Rattle.ember_model.specs.declared.plane.Plane.{Plane}
use Rattle.ember_model.specs.declared.point.Spot.{Spot}
use Rattle.ember_model.specs.declared.point.Axis.{Axis}
use Rattle.ember_model.specs.declared.point.Axis.TheVariants.{X, Y, Z}
use Rattle.ember_model.specs.declared.tri.Tri.{Tri}
use Rattle.ember_model.specs.Planes.{value_at, along, main_axis}
use Rattle.ember_model.specs.Edges.{normal}
use Rattle.ember_model.specs.Points.{scaled, plus_s, displacement}
use Rattle.ember_model.proofs.PlaneValues.{value_scaled, value_plus}
use Rattle.ember_model.proofs.SignTests.{positive_out, zero_scaled, zero_times}
use Rattle.ember_model.proofs.Tuples.{spot_tuple, same_spot}
use Rattle.mesh_certificate.specs.Certificate.Facing.{triangle_normal, turn_along}
use Rattle.mesh_certificate.proofs.SeenFromFront.{left_from_front}
use Rattle.mesh_sources.specs.Places.{Spots, EachSpot, IsOutside, HasOuter, coordinate, IsBefore, AreBefore, AreApart}
use Rattle.mesh_sources.specs.Places.{IsTriangleOn, IsInner, AreOn, IsProper, IsPlace, facing, is_turned}
use Rattle.mesh_sources.specs.Places.{spots_of, spots_in_order, spots_seen}
use Rattle.mesh_sources.specs.declared.facet.Facet.{Facet}
use Rattle.mesh_sources.proofs.BoxesApart.{each_turned}
use Rattle.mesh_sources.proofs.Placed.{positive_weights, proper_is_on, turned_is_on}

-- ---- numbers
-- Cramer's rule: a row as a sum of three others, times the determinant of these, in each column
column_1_is_sum : (s a b c d e f g h i x y z : ℤ) →
    (s *ℤ det3 a b c d e f g h i) *ℤ x ≡ (s *ℤ det3 d e f g h i x y z) *ℤ a +ℤ (s *ℤ det3 g h i a b c x y z) *ℤ d +ℤ (s *ℤ det3 a b c d e f x y z) *ℤ g
column_1_is_sum =
    solve 13 (λ s a b c d e f g h i x y z. (s ⊗ Det3 a b c d e f g h i) ⊗ x ≈ (s ⊗ Det3 d e f g h i x y z) ⊗ a ⊕
    (s ⊗ Det3 g h i a b c x y z) ⊗ d ⊕ (s ⊗ Det3 a b c d e f x y z) ⊗ g) cancels

column_2_is_sum : (s a b c d e f g h i x y z : ℤ) →
    (s *ℤ det3 a b c d e f g h i) *ℤ y ≡ (s *ℤ det3 d e f g h i x y z) *ℤ b +ℤ (s *ℤ det3 g h i a b c x y z) *ℤ e +ℤ (s *ℤ det3 a b c d e f x y z) *ℤ h
column_2_is_sum =
    solve 13 (λ s a b c d e f g h i x y z. (s ⊗ Det3 a b c d e f g h i) ⊗ y ≈ (s ⊗ Det3 d e f g h i x y z) ⊗ b ⊕
    (s ⊗ Det3 g h i a b c x y z) ⊗ e ⊕ (s ⊗ Det3 a b c d e f x y z) ⊗ h) cancels

column_3_is_sum : (s a b c d e f g h i x y z : ℤ) →
    (s *ℤ det3 a b c d e f g h i) *ℤ z ≡ (s *ℤ det3 d e f g h i x y z) *ℤ c +ℤ (s *ℤ det3 g h i a b c x y z) *ℤ f +ℤ (s *ℤ det3 a b c d e f x y z) *ℤ i
column_3_is_sum =
    solve 13 (λ s a b c d e f g h i x y z. (s ⊗ Det3 a b c d e f g h i) ⊗ z ≈ (s ⊗ Det3 d e f g h i x y z) ⊗ c ⊕
    (s ⊗ Det3 g h i a b c x y z) ⊗ f ⊕ (s ⊗ Det3 a b c d e f x y z) ⊗ i) cancels

-- sums of four products that agree in three of them agree in the other one
first_products_agree : (a b c d x y z w k l m n : ℤ) → a *ℤ x +ℤ b *ℤ y +ℤ c *ℤ z -ℤ d *ℤ w ≡ a *ℤ k +ℤ b *ℤ l +ℤ c *ℤ m -ℤ d *ℤ n → y ≡ l → z ≡ m → w ≡ n → a *ℤ x ≡ a *ℤ k
first_products_agree a b c d x y z w k l m n e ey ez ew =
    omega (arith, linear, e, ap (λ (t : ℤ). b *ℤ t) ey, ap (λ (t : ℤ). c *ℤ t) ez, ap (λ (t : ℤ). d *ℤ t) ew)

second_products_agree : (a b c d x y z w k l m n : ℤ) → a *ℤ x +ℤ b *ℤ y +ℤ c *ℤ z -ℤ d *ℤ w ≡ a *ℤ k +ℤ b *ℤ l +ℤ c *ℤ m -ℤ d *ℤ n → x ≡ k → z ≡ m → w ≡ n → b *ℤ y ≡ b *ℤ l
second_products_agree a b c d x y z w k l m n e ex ez ew =
    omega (arith, linear, e, ap (λ (t : ℤ). a *ℤ t) ex, ap (λ (t : ℤ). c *ℤ t) ez, ap (λ (t : ℤ). d *ℤ t) ew)

third_products_agree : (a b c d x y z w k l m n : ℤ) → a *ℤ x +ℤ b *ℤ y +ℤ c *ℤ z -ℤ d *ℤ w ≡ a *ℤ k +ℤ b *ℤ l +ℤ c *ℤ m -ℤ d *ℤ n → x ≡ k → y ≡ l → w ≡ n → c *ℤ z ≡ c *ℤ m
third_products_agree a b c d x y z w k l m n e ex ey ew =
    omega (arith, linear, e, ap (λ (t : ℤ). a *ℤ t) ex, ap (λ (t : ℤ). b *ℤ t) ey, ap (λ (t : ℤ). d *ℤ t) ew)

-- a sum of zeros
sum_zero : {a b c : ℤ} → a ≡ pos 0 → b ≡ pos 0 → c ≡ pos 0 → a +ℤ b +ℤ c ≡ pos 0
sum_zero p q r = omega (arith, linear, p, q, r)

-- the other factor of a positive product
positive_factor : (a w : ℤ) → pos 0 <ℤ w → pos 0 <ℤ (a *ℤ w) → pos 0 <ℤ a
positive_factor a w p h =
    by_sign a (λ l. l) (λ z. absurd (omega (arith, linear, zero_times a w z, h)))
    (λ l. absurd (omega (arith, linear, mul_neg_pos l p, h)))

-- what a sum with positive factors says of the signs
module _ (k a b c x u v w : ℤ) (pk : pos 0 <ℤ k) (pa : pos 0 <ℤ a) (pb : pos 0 <ℤ b) (pc : pos 0 <ℤ c) (e : k *ℤ x ≡ a *ℤ u +ℤ b *ℤ v +ℤ c *ℤ w) where
  not_above : u ≤ℤ pos 0 → v ≤ℤ pos 0 → w ≤ℤ pos 0 → x ≤ℤ pos 0
  not_above hu hv hw =
      by_lt_z (pos 0) x
      (λ l.
      let na : pos 0 ≤ℤ a = omega (arith, linear, pa) in let nb : pos 0 ≤ℤ b = omega (arith, linear, pb) in
      let nc : pos 0 ≤ℤ c = omega (arith, linear, pc) in
      absurd (omega (arith, linear, pos_mul pk l, e, mul_le na hu, mul_le nb hv, mul_le nc hw, *ℤ-zero a, *ℤ-zero b, *ℤ-zero c)))
      (λ l. l)

  below : u <ℤ pos 0 → v <ℤ pos 0 → w <ℤ pos 0 → x <ℤ pos 0
  below hu hv hw =
      by_sign x (λ l. absurd (omega (arith, linear, pos_mul pk l, e, mul_pos_neg pa hu, mul_pos_neg pb hv, mul_pos_neg pc hw)))
      (λ z. absurd (omega (arith, linear, zero_scaled k x z, e, mul_pos_neg pa hu, mul_pos_neg pb hv, mul_pos_neg pc hw)))
      (λ l. l)

  above : pos 0 <ℤ u → pos 0 <ℤ v → pos 0 <ℤ w → pos 0 <ℤ x
  above hu hv hw =
      by_sign x (λ l. l)
      (λ z. absurd (omega (arith, linear, zero_scaled k x z, e, pos_mul pa hu, pos_mul pb hv, pos_mul pc hw)))
      (λ l. absurd (omega (arith, linear, mul_pos_neg pk l, e, pos_mul pa hu, pos_mul pb hv, pos_mul pc hw)))

-- ---- points of one plane: each is a sum of three others
abbrev sum_of : ℤ → ℤ → ℤ → Spots → Spot
sum_of a b c r = plus_s (plus_s (scaled a r.u) (scaled b r.v)) (scaled c r.w)

value_of_sum : (h : Plane) (a b c : ℤ) (r : Spots) → value_at h (sum_of a b c r) ≡ a *ℤ value_at h r.u +ℤ b *ℤ value_at h r.v +ℤ c *ℤ value_at h r.w
value_of_sum h a b c r =
    let eu = value_scaled a h r.u in let ev = value_scaled b h r.v in let ew = value_scaled c h r.w in
    let uv = value_plus h (scaled a r.u) (scaled b r.v) ∙ (λ i. eu i +ℤ ev i) in
    value_plus h (plus_s (scaled a r.u) (scaled b r.v)) (scaled c r.w) ∙ (λ i. uv i +ℤ ew i)

module _ (p : Plane) (r : Spots) (q : Spot) (zu : value_at p r.u ≡ pos 0) (zv : value_at p r.v ≡ pos 0) (zw : value_at p r.w ≡ pos 0) (zq : value_at p q ≡ pos 0) where
  abbrev whole : Axis → ℤ
  whole k = along p k *ℤ turn_along k r.u r.v r.w

  abbrev part_u : Axis → ℤ
  part_u k = along p k *ℤ turn_along k r.v r.w q

  abbrev part_v : Axis → ℤ
  part_v k = along p k *ℤ turn_along k r.w r.u q

  abbrev part_w : Axis → ℤ
  part_w k = along p k *ℤ turn_along k r.u r.v q

  abbrev parts : Axis → Spot
  parts k = sum_of (part_u k) (part_v k) (part_w k) r

  -- both points lie in the plane
  flat : (a b c d : ℤ) → value_at p (scaled a q) ≡ value_at p (sum_of b c d r)
  flat a b c d =
      value_scaled a p q ∙ zero_scaled a (value_at p q) zq
      ∙ sym (value_of_sum p b c d r ∙ sum_zero (zero_scaled b (value_at p r.u) zu) (zero_scaled c (value_at p r.v) zv) (zero_scaled d (value_at p r.w) zw))

  -- the point, as a sum of the corners
  parts_are : (k : Axis) → along p k ≢ pos 0 → scaled (whole k) q ≡ parts k
  parts_are X n =
      let y = column_1_is_sum p.a r.u.y r.u.z r.u.w r.v.y r.v.z r.v.w r.w.y r.w.z r.w.w q.y q.z q.w in
      let z = column_2_is_sum p.a r.u.y r.u.z r.u.w r.v.y r.v.z r.v.w r.w.y r.w.z r.w.w q.y q.z q.w in
      let w = column_3_is_sum p.a r.u.y r.u.z r.u.w r.v.y r.v.z r.v.w r.w.y r.w.z r.w.w q.y q.z q.w in
      let s = scaled (whole X) q in let t = parts X in
      same_spot (cancel_eq n (first_products_agree p.a p.b p.c p.d s.x s.y s.z s.w t.x t.y t.z t.w (flat (whole X) (part_u X) (part_v X) (part_w X)) y z w)) y z w
  parts_are Y n =
      let z = column_1_is_sum p.b r.u.z r.u.x r.u.w r.v.z r.v.x r.v.w r.w.z r.w.x r.w.w q.z q.x q.w in
      let x = column_2_is_sum p.b r.u.z r.u.x r.u.w r.v.z r.v.x r.v.w r.w.z r.w.x r.w.w q.z q.x q.w in
      let w = column_3_is_sum p.b r.u.z r.u.x r.u.w r.v.z r.v.x r.v.w r.w.z r.w.x r.w.w q.z q.x q.w in
      let s = scaled (whole Y) q in let t = parts Y in
      same_spot x (cancel_eq n (second_products_agree p.a p.b p.c p.d s.x s.y s.z s.w t.x t.y t.z t.w (flat (whole Y) (part_u Y) (part_v Y) (part_w Y)) x z w)) z w
  parts_are Z n =
      let x = column_1_is_sum p.c r.u.x r.u.y r.u.w r.v.x r.v.y r.v.w r.w.x r.w.y r.w.w q.x q.y q.w in
      let y = column_2_is_sum p.c r.u.x r.u.y r.u.w r.v.x r.v.y r.v.w r.w.x r.w.y r.w.w q.x q.y q.w in
      let w = column_3_is_sum p.c r.u.x r.u.y r.u.w r.v.x r.v.y r.v.w r.w.x r.w.y r.w.w q.x q.y q.w in
      let s = scaled (whole Z) q in let t = parts Z in
      same_spot x y (cancel_eq n (third_products_agree p.a p.b p.c p.d s.x s.y s.z s.w t.x t.y t.z t.w (flat (whole Z) (part_u Z) (part_v Z) (part_w Z)) x y w)) w

  value_of_parts : (h : Plane) (k : Axis) → along p k ≢ pos 0 → whole k *ℤ value_at h q ≡ part_u k *ℤ value_at h r.u +ℤ part_v k *ℤ value_at h r.v +ℤ part_w k *ℤ value_at h r.w
  value_of_parts h k n =
      sym (value_scaled (whole k) h q) ∙ ap (λ (s : Spot). value_at h s) (parts_are k n)
      ∙ value_of_sum h (part_u k) (part_v k) (part_w k) r

-- ---- inner points: what a plane's value at the corners says of its value there
not_factor_zero : (a b : ℤ) → pos 0 <ℤ (a *ℤ b) → a ≢ pos 0
not_factor_zero a b h z = omega (arith, linear, zero_times a b z, h)

module _ (p : Plane) (r : Spots) (q : Spot) (is : IsTriangleOn p r) (inner : IsInner p r q) (h : Plane) where
  abbrev k : Axis
  k = main_axis p

  turns : (a b : Spot) → pos 0 <ℤ a.w → value_at p a ≡ pos 0 → value_at p b ≡ pos 0 → pos 0 <ℤ dot (normal p) (triangle_normal a b q) → pos 0 <ℤ (along p k *ℤ turn_along k a b q)
  turns a b w za zb f = positive_out _ (left_from_front p a b q w (record { first = za; second = zb; third = inner.on; front = f }))

  on_u : pos 0 <ℤ (along p k *ℤ turn_along k r.v r.w q)
  on_u = turns r.v r.w is.weights.1 is.on.1 is.on.2 inner.inside.1

  on_v : pos 0 <ℤ (along p k *ℤ turn_along k r.w r.u q)
  on_v = turns r.w r.u is.weights.2 is.on.2 is.on.0 inner.inside.2

  on_w : pos 0 <ℤ (along p k *ℤ turn_along k r.u r.v q)
  on_w = turns r.u r.v is.weights.0 is.on.0 is.on.1 inner.inside.0

  -- the weight of a sum of the corners
  positive_sum : (a b c d : ℤ) → scaled a q ≡ sum_of b c d r → pos 0 <ℤ b → pos 0 <ℤ c → pos 0 <ℤ d → pos 0 <ℤ (a *ℤ q.w)
  positive_sum a b c d e pb pc pd =
      let w = ap (λ (s : Spot). s.w) e in let x = pos_mul pb is.weights.0 in let y = pos_mul pc is.weights.1 in
      let z = pos_mul pd is.weights.2 in omega (arith, linear, w, x, y, z)

  on_whole : pos 0 <ℤ (along p k *ℤ turn_along k r.u r.v r.w)
  on_whole =
      positive_factor _ q.w inner.weight
      (positive_sum _ _ _ _ (parts_are p r q is.on.0 is.on.1 is.on.2 inner.on k (not_factor_zero _ _ on_u)) on_u on_v on_w)

  signs :
      whole p r q is.on.0 is.on.1 is.on.2 inner.on k *ℤ value_at h q ≡ (along p k *ℤ turn_along k r.v r.w q) *ℤ value_at h r.u +ℤ
      (along p k *ℤ turn_along k r.w r.u q) *ℤ value_at h r.v +ℤ (along p k *ℤ turn_along k r.u r.v q) *ℤ value_at h r.w
  signs = value_of_parts p r q is.on.0 is.on.1 is.on.2 inner.on h k (not_factor_zero _ _ on_u)

  value_not_above : EachSpot (λ v. value_at h v ≤ℤ pos 0) r → value_at h q ≤ℤ pos 0
  value_not_above e = not_above _ _ _ _ _ _ _ _ on_whole on_u on_v on_w signs e.0 e.1 e.2

  value_below : EachSpot (λ v. value_at h v <ℤ pos 0) r → value_at h q <ℤ pos 0
  value_below e = below _ _ _ _ _ _ _ _ on_whole on_u on_v on_w signs e.0 e.1 e.2

  value_above : EachSpot (λ v. pos 0 <ℤ value_at h v) r → pos 0 <ℤ value_at h q
  value_above e = above _ _ _ _ _ _ _ _ on_whole on_u on_v on_w signs e.0 e.1 e.2

-- ---- edges
-- the plane through the edge from a to b, square to the plane with normal n: its value is the turn
abbrev through : Vector → Spot → Vector → Plane
through n a d =
    let m = cross n d in
    record { a = a.w *ℤ m.x; b = a.w *ℤ m.y; c = a.w *ℤ m.z; d = m.x *ℤ a.x +ℤ m.y *ℤ a.y +ℤ m.z *ℤ a.z }

turn_is : (n d : Vector) (a y : Spot) → dot n (cross d (displacement a y)) ≡ value_at (through n a d) y
turn_is n d a y =
    identity (vector ∷ vector ∷ tuple ∷ tuple ∷ []) (λ n d a y.
    dotE n (crossE d (record { x = a.w ⊗ y.x ⊖ y.w ⊗ a.x; y = a.w ⊗ y.y ⊖ y.w ⊗ a.y; z = a.w ⊗ y.z ⊖ y.w ⊗ a.z }))
    ≈ valueE (record { x = a.w ⊗ (crossE n d).x; y = a.w ⊗ (crossE n d).y; z = a.w ⊗ (crossE n d).z; w = dotE (crossE n d) (vector_partE a) }) y) cancels
    n d (spot_tuple a) (spot_tuple y)

same_not_above : {a b : ℤ} → a ≡ b → a ≤ℤ pos 0 → b ≤ℤ pos 0
same_not_above e h = omega (arith, linear, e, h)

crossed : {a b : ℤ} → a ≡ b → b ≤ℤ pos 0 → pos 0 <ℤ a → ⊥
crossed e h l = omega (arith, linear, e, h, l)

module _ (p : Plane) (r s : Spots) (q : Spot) (on_s : IsTriangleOn p s) (in_r : IsInner p r q) (in_s : IsInner p s q) where
  not_outer_at : (a b : Spot) → pos 0 <ℤ dot (normal p) (triangle_normal a b q) → EachSpot (λ x. IsOutside p a b x) s → ⊥
  not_outer_at a b l o =
      let d = displacement a b in let n = normal p in
      let low = value_not_above p s q on_s in_s (through n a d)
      (same_not_above (turn_is n d a s.u) o.0, same_not_above (turn_is n d a s.v) o.1, same_not_above (turn_is n d a s.w) o.2) in
      crossed (turn_is n d a q) low l

  not_outer : HasOuter p r s → ⊥
  not_outer o =
      ⊎_elim (not_outer_at r.u r.v in_r.inside.0)
      (⊎_elim (not_outer_at r.v r.w in_r.inside.1) (not_outer_at r.w r.u in_r.inside.2)) o

-- ---- boxes
-- the plane across the axis through a point: its value is positive beyond the point
abbrev across : Axis → Spot → Plane
across X b = record { a = b.w; b = pos 0; c = pos 0; d = b.x }
across Y b = record { a = pos 0; b = b.w; c = pos 0; d = b.y }
across Z b = record { a = pos 0; b = pos 0; c = b.w; d = b.z }

across_is : (k : Axis) (b y : Spot) → value_at (across k b) y ≡ b.w *ℤ coordinate k y -ℤ y.w *ℤ coordinate k b
across_is X b y =
    identity (tuple ∷ tuple ∷ []) (λ b y. valueE (record { x = b.w; y = num (pos 0); z = num (pos 0); w = b.x }) y ≈ b.w ⊗ y.x ⊖ y.w ⊗ b.x) cancels
    (spot_tuple b) (spot_tuple y)
across_is Y b y =
    identity (tuple ∷ tuple ∷ []) (λ b y. valueE (record { x = num (pos 0); y = b.w; z = num (pos 0); w = b.y }) y ≈ b.w ⊗ y.y ⊖ y.w ⊗ b.y) cancels
    (spot_tuple b) (spot_tuple y)
across_is Z b y =
    identity (tuple ∷ tuple ∷ []) (λ b y. valueE (record { x = num (pos 0); y = num (pos 0); z = b.w; w = b.z }) y ≈ b.w ⊗ y.z ⊖ y.w ⊗ b.z) cancels
    (spot_tuple b) (spot_tuple y)

low_value : {v x y : ℤ} → v ≡ x -ℤ y → x <ℤ y → v <ℤ pos 0
low_value e h = omega (arith, linear, e, h)

low_value_out : {v x y : ℤ} → v ≡ x -ℤ y → v <ℤ pos 0 → x <ℤ y
low_value_out e h = omega (arith, linear, e, h)

high_value : {v x y : ℤ} → v ≡ y -ℤ x → x <ℤ y → pos 0 <ℤ v
high_value e h = omega (arith, linear, e, h)

no_value : {v : ℤ} (x : ℤ) → v ≡ x -ℤ x → pos 0 <ℤ v → ⊥
no_value x e h = omega (arith, linear, e, h)

module _ (p : Plane) (r s : Spots) (q : Spot) (on_r : IsTriangleOn p r) (on_s : IsTriangleOn p s) (in_r : IsInner p r q) (in_s : IsInner p s q) (k : Axis) (before : AreBefore k r s) where
  is_before : (b : Spot) → EachSpot (λ a. IsBefore k a b) r → IsBefore k q b
  is_before b e =
      low_value_out (across_is k b q) (value_below p r q on_r in_r (across k b)
      (low_value (across_is k b r.u) e.0, low_value (across_is k b r.v) e.1, low_value (across_is k b r.w) e.2))

  before_each : EachSpot (λ b. IsBefore k q b) s
  before_each =
      (is_before s.u (before.0.0, before.1.0, before.2.0), is_before s.v (before.0.1, before.1.1, before.2.1), is_before s.w (before.0.2, before.1.2, before.2.2))

  not_before : ⊥
  not_before =
      no_value (q.w *ℤ coordinate k q) (across_is k q q) (value_above p s q on_s in_s (across k q)
      (high_value (across_is k q s.u) before_each.0, high_value (across_is k q s.v) before_each.1, high_value (across_is k q s.w) before_each.2))

-- ---- the laws
pub inner_not_apart : (p : Plane) (r s : Spots) (q : Spot) → IsTriangleOn p r → IsTriangleOn p s → IsInner p r q → IsInner p s q → AreApart p r s → ⊥
inner_not_apart p r s q on_r on_s in_r in_s apart =
    ⊎_elim
    (λ b. ⊎_elim (not_before p r s q on_r on_s in_r in_s b.0) (not_before p s r q on_s on_r in_s in_r b.0) b.1)
    (⊎_elim (not_outer p r s q on_s in_r in_s) (not_outer p s r q on_r in_s in_r))
    apart

weight_of_corners : pos 0 <ℤ pos 1
weight_of_corners = omega (arith, linear)

facet_is_on : (f : Facet) → IsProper f → IsTriangleOn f.plane (spots_of f.corners)
facet_is_on f h = record { weights = positive_weights f.corners; on = proper_is_on f h }

triangle_is_on : (p : Plane) (t : Tri) → AreOn p (spots_in_order t) → IsTriangleOn p (spots_seen p t)
triangle_is_on p t h = record {
  weights = each_turned (λ v. pos 0 <ℤ v.w) (is_turned p t) t (weight_of_corners, weight_of_corners, weight_of_corners);
  on = turned_is_on p t (is_turned p t) (spots_seen p t) refl h;
}

pub inner_is_place : (f : Facet) (t : Tri) (q : Spot) → IsProper f → AreOn f.plane (spots_in_order t) →
    facing f.plane t ≢ pos 0 → IsInner f.plane (spots_of f.corners) q → IsInner f.plane (spots_seen f.plane t) q →
    IsPlace f t
inner_is_place f t q proper lies area in_f in_t = record {
  proper = proper;
  lies = lies;
  area = area;
  meets = inner_not_apart f.plane (spots_of f.corners) (spots_seen f.plane t) q (facet_is_on f proper) (triangle_is_on f.plane t lies) in_f in_t;
}
