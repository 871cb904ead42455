-- Lines in which two planes meet: their points, and their keys.
use Rattle.std.proofs.Common.{◌≡◌, ◌≢◌, ◌↔◌, ⊎_elim, ℕ, ◌≤◌, [], ◌∷◌, ℤ, pos, ◌*ℤ◌, neg_ℤ, ◌<ℤ◌, unsigned_abs, refl, sym, ap, subst, ◌∙◌, arith}
use lib.IntN.{*ℤ_comm}
use Rattle.std.proofs.lemmas.Nat.Gcd.{le_of_dvd}
use Rattle.std.specs.Int.{◌∣◌}
use Rattle.ember_algebra.specs.Sign.{sign}
use Rattle.ember_algebra.specs.Size.{Small}
use Rattle.std.proofs.lemmas.Int.{ints}
use Rattle.ember_algebra.specs.Large.{first_sign}
use Rattle.ember_algebra.specs.Vector.{Vector, zero_v, plus_v, minus_v, scale_v, dot, cross}
use Rattle.ember_algebra.proofs.Laws.{from_one, from_two, from_three}
use Rattle.ember_algebra.proofs.Order.{by_sign, zero_product}
use Rattle.ember_algebra.proofs.Ring.{◌⊕◌, ◌⊖◌, ◌⊗◌, ◌≈◌, num, neg, cancels}
use Rattle.ember_algebra.proofs.Vectors.{scalar, vector, tuple, identity, vector_identity, ◌≈v◌, cancels_v, same_v}
use Rattle.ember_algebra.proofs.Vectors.{VectorE, TupleE, plusE, minusE, scaleE, dotE, crossE, valueE, square_positive}
use Rattle.ember_model.specs.declared.plane.Plane.{Plane}
use Rattle.ember_model.specs.declared.point.Spot.{Spot}
use Rattle.ember_model.specs.Edges.{normal}
use Rattle.ember_model.specs.Planes.{value_at}
use Rattle.ember_model.proofs.Tuples.{plane_tuple, spot_tuple, normalE}
use Rattle.ember_model.proofs.SignTests.{positive_nonzero, negative_nonzero}
use Rattle.ember_width.specs.Broad.{most_cross}
use Rattle.mesh_certificate.specs.declared.key.lines.LineKey.{LineKey}
use Rattle.mesh_certificate.specs.Key.Divisors.{Divides, IsGreatestDivisor}
use Rattle.mesh_certificate.specs.Key.LineKeys.{direction, moment, coordinates, numerators, IsOnLine, IsOnBoth, direction_of}
use Rattle.mesh_certificate.specs.Key.LineKeys.{moment_of, IsLineKey, IsMultiple, IsLineSized, HaveSameMeet}
use Rattle.mesh_certificate.proofs.Divisors.{factors_have_one_size, quotients_are_lowest, divides_zero}
use Rattle.mesh_certificate.proofs.Quotients.{size_positive, quotient_small}
use Rattle.mesh_certificate.proofs.Vectors.{zeroE, scale_cancel, scale_nonzero, parallel_multiple}
use Rattle.mesh_certificate.proofs.Signs.{forward_factor, forward_where_same_sign}

-- ---- the points on two planes
abbrev momentE : TupleE → TupleE → VectorE
momentE p q = minusE (scaleE q.w (normalE p)) (scaleE p.w (normalE q))

abbrev numeratorsE : TupleE → VectorE
numeratorsE v = record { x = v.x; y = v.y; z = v.z }

module _ (p q : Plane) (v : Spot) where
  -- a point on both planes has the moment of their line
  moment_of_point : IsOnBoth p q v → cross (numerators v) (direction_of p q) ≡ scale_v v.w (moment_of p q)
  moment_of_point h =
      same_v
      (from_two p.a (neg_ℤ q.a) h.1 h.0 (identity (tuple ∷ tuple ∷ tuple ∷ [])
      (λ p q v. (crossE (numeratorsE v) (crossE (normalE p) (normalE q))).x ⊖ v.w ⊗ (momentE p q).x ≈ p.x ⊗
      (valueE q v ⊖ num (pos 0)) ⊕ neg q.x ⊗ (valueE p v ⊖ num (pos 0))) cancels (plane_tuple p) (plane_tuple q)
      (spot_tuple v)))
      (from_two p.b (neg_ℤ q.b) h.1 h.0 (identity (tuple ∷ tuple ∷ tuple ∷ [])
      (λ p q v. (crossE (numeratorsE v) (crossE (normalE p) (normalE q))).y ⊖ v.w ⊗ (momentE p q).y ≈ p.y ⊗
      (valueE q v ⊖ num (pos 0)) ⊕ neg q.y ⊗ (valueE p v ⊖ num (pos 0))) cancels (plane_tuple p) (plane_tuple q)
      (spot_tuple v)))
      (from_two p.c (neg_ℤ q.c) h.1 h.0 (identity (tuple ∷ tuple ∷ tuple ∷ [])
      (λ p q v. (crossE (numeratorsE v) (crossE (normalE p) (normalE q))).z ⊖ v.w ⊗ (momentE p q).z ≈ p.z ⊗
      (valueE q v ⊖ num (pos 0)) ⊕ neg q.z ⊗ (valueE p v ⊖ num (pos 0))) cancels (plane_tuple p) (plane_tuple q)
      (spot_tuple v)))

  -- and a point with this moment is on both
  module _ (n : direction_of p q ≢ zero_v) (h : cross (numerators v) (direction_of p q) ≡ scale_v v.w (moment_of p q)) where
    square_nonzero : dot (direction_of p q) (direction_of p q) ≢ pos 0
    square_nonzero = positive_nonzero (square_positive (direction_of p q) n)

    without_square : (z : ℤ) → z *ℤ dot (direction_of p q) (direction_of p q) ≡ pos 0 → z ≡ pos 0
    without_square z e = ⊎_elim (λ y. y) (λ y. absurd (square_nonzero y)) (zero_product e)

    hx : (cross (numerators v) (direction_of p q)).x ≡ v.w *ℤ (moment_of p q).x
    hx = ap (λ (v : Vector). v.x) h

    hy : (cross (numerators v) (direction_of p q)).y ≡ v.w *ℤ (moment_of p q).y
    hy = ap (λ (v : Vector). v.y) h

    hz : (cross (numerators v) (direction_of p q)).z ≡ v.w *ℤ (moment_of p q).z
    hz = ap (λ (v : Vector). v.z) h

    on_second : value_at q v ≡ pos 0
    on_second =
        let c = cross (normal q) (direction_of p q) in
        without_square (value_at q v) (from_three c.x c.y c.z hx hy hz
        (identity (tuple ∷ tuple ∷ tuple ∷ []) (λ p q v. let t = crossE (normalE p) (normalE q) in let c =
        crossE (normalE q) t in let l = crossE (numeratorsE v) t in let m = momentE p q in
        valueE q v ⊗ dotE t t ⊖ num (pos 0) ≈ c.x ⊗ (l.x ⊖ v.w ⊗ m.x) ⊕ c.y ⊗ (l.y ⊖ v.w ⊗ m.y) ⊕ c.z ⊗
        (l.z ⊖ v.w ⊗ m.z)) cancels (plane_tuple p) (plane_tuple q) (spot_tuple v)))

    on_first : value_at p v ≡ pos 0
    on_first =
        let c = cross (normal p) (direction_of p q) in
        without_square (value_at p v) (from_three c.x c.y c.z hx hy hz
        (identity (tuple ∷ tuple ∷ tuple ∷ []) (λ p q v. let t = crossE (normalE p) (normalE q) in let c =
        crossE (normalE p) t in let l = crossE (numeratorsE v) t in let m = momentE p q in
        valueE p v ⊗ dotE t t ⊖ num (pos 0) ≈ c.x ⊗ (l.x ⊖ v.w ⊗ m.x) ⊕ c.y ⊗ (l.y ⊖ v.w ⊗ m.y) ⊕ c.z ⊗
        (l.z ⊖ v.w ⊗ m.z)) cancels (plane_tuple p) (plane_tuple q) (spot_tuple v)))

    on_both : IsOnBoth p q v
    on_both = (on_first, on_second)

-- ---- the same under a factor
scale-cross : (f : ℤ) (x k : Vector) → cross x (scale_v f k) ≡ scale_v f (cross x k)
scale-cross = vector_identity (scalar ∷ vector ∷ vector ∷ []) (λ f x k. crossE x (scaleE f k) ≈v scaleE f (crossE x k)) cancels_v

scale-scale : (f w : ℤ) (m : Vector) → scale_v f (scale_v w m) ≡ scale_v w (scale_v f m)
scale-scale = vector_identity (scalar ∷ scalar ∷ vector ∷ []) (λ f w m. scaleE f (scaleE w m) ≈v scaleE w (scaleE f m)) cancels_v

module _ {p q : Plane} {k : LineKey} (h : IsLineKey p q k) where
  direction_nonzero : direction k ≢ zero_v
  direction_nonzero z =
      let e : pos 1 ≡ pos 0 = sym h.forward ∙ ap (λ (v : Vector). first_sign (v.x ∷ v.y ∷ v.z ∷ [])) z in omega (arith, ints)

  planes_direction_nonzero : direction_of p q ≢ zero_v
  planes_direction_nonzero = scale_nonzero h.factor (direction k) (direction_of p q) h.not_zero h.same_direction direction_nonzero

  up : (v : Spot) → IsOnLine k v → cross (numerators v) (direction_of p q) ≡ scale_v v.w (moment_of p q)
  up v e =
      ap (λ (t : Vector). cross (numerators v) t) (sym h.same_direction)
      ∙ scale-cross h.factor (numerators v) (direction k) ∙ ap (λ (t : Vector). scale_v h.factor t) e
      ∙ scale-scale h.factor v.w (moment k) ∙ ap (λ (t : Vector). scale_v v.w t) h.same_moment

  down : (v : Spot) → cross (numerators v) (direction_of p q) ≡ scale_v v.w (moment_of p q) → IsOnLine k v
  down v e =
      scale_cancel h.factor (cross (numerators v) (direction k)) (scale_v v.w (moment k)) h.not_zero
      (sym (scale-cross h.factor (numerators v) (direction k))
      ∙ ap (λ (t : Vector). cross (numerators v) t) h.same_direction ∙ e
      ∙ ap (λ (t : Vector). scale_v v.w t) (sym h.same_moment) ∙ sym (scale-scale h.factor v.w (moment k)))

  -- the points of the key's line are those on both planes
  pub points_of_key : (v : Spot) → IsOnLine k v ↔ IsOnBoth p q v
  points_of_key v = (λ e. on_both p q v planes_direction_nonzero (up v e), λ b. down v (moment_of_point p q v b))

  -- the moment is orthogonal to the direction
  moment_orthogonal : dot (direction k) (moment k) ≡ pos 0
  moment_orthogonal =
      let f = h.factor in
      let whole : (f *ℤ f) *ℤ dot (direction k) (moment k) ≡ pos 0 =
      identity (scalar ∷ vector ∷ vector ∷ []) (λ f k m. (f ⊗ f) ⊗ dotE k m ≈ dotE (scaleE f k) (scaleE f m)) cancels f
      (direction k) (moment k) ∙ ap (λ (t : Vector). dot t (scale_v f (moment k))) h.same_direction
      ∙ ap (λ (t : Vector). dot (direction_of p q) t) h.same_moment
      ∙ identity (tuple ∷ tuple ∷ []) (λ p q. dotE (crossE (normalE p) (normalE q)) (momentE p q) ≈ num (pos 0))
      cancels (plane_tuple p) (plane_tuple q) in
      ⊎_elim (λ z. absurd (⊎_elim h.not_zero h.not_zero (zero_product z))) (λ z. z) (zero_product whole)

-- ---- two lines with the same points
module _ (k m l n : Vector) (some_k : k ≢ zero_v) (o : dot k m ≡ pos 0) (inside : (x : Vector) (w : ℤ) → pos 0 <ℤ w →
    cross x k ≡ scale_v w m → cross x l ≡ scale_v w n) where
  weight : pos 0 <ℤ dot k k
  weight = square_positive k some_k

  -- the point nearest to the origin, of weight k · k
  foot_on : cross (cross k m) k ≡ scale_v (dot k k) m
  foot_on =
      same_v
      (from_one (neg_ℤ k.x) o (identity (vector ∷ vector ∷ [])
      (λ k m. (crossE (crossE k m) k).x ⊖ dotE k k ⊗ m.x ≈ neg k.x ⊗ (dotE k m ⊖ num (pos 0))) cancels k m))
      (from_one (neg_ℤ k.y) o (identity (vector ∷ vector ∷ [])
      (λ k m. (crossE (crossE k m) k).y ⊖ dotE k k ⊗ m.y ≈ neg k.y ⊗ (dotE k m ⊖ num (pos 0))) cancels k m))
      (from_one (neg_ℤ k.z) o (identity (vector ∷ vector ∷ [])
      (λ k m. (crossE (crossE k m) k).z ⊖ dotE k k ⊗ m.z ≈ neg k.z ⊗ (dotE k m ⊖ num (pos 0))) cancels k m))

  foot_on_other : cross (cross k m) l ≡ scale_v (dot k k) n
  foot_on_other = inside (cross k m) (dot k k) weight foot_on

  next_on_other : cross (plus_v (cross k m) k) l ≡ scale_v (dot k k) n
  next_on_other =
      inside (plus_v (cross k m) k) (dot k k) weight
      (vector_identity (vector ∷ vector ∷ []) (λ f k. crossE (plusE f k) k ≈v crossE f k) cancels_v (cross k m) k
      ∙ foot_on)

  parallel : cross k l ≡ zero_v
  parallel =
      vector_identity (vector ∷ vector ∷ vector ∷ [])
      (λ f k l. crossE k l ≈v minusE (crossE (plusE f k) l) (crossE f l)) cancels_v (cross k m) k l
      ∙ (λ i. minus_v (next_on_other i) (foot_on_other i))
      ∙ vector_identity (vector ∷ []) (λ u. minusE u u ≈v zeroE) cancels_v (scale_v (dot k k) n)

  directions_multiple : scale_v (dot k l) k ≡ scale_v (dot k k) l
  directions_multiple = parallel_multiple k l parallel

  moments_multiple : scale_v (dot k l) m ≡ scale_v (dot k k) n
  moments_multiple =
      scale_cancel (dot k k) (scale_v (dot k l) m) (scale_v (dot k k) n) (positive_nonzero weight)
      (scale-scale (dot k k) (dot k l) m ∙ ap (λ (t : Vector). scale_v (dot k l) t) (sym foot_on)
      ∙ sym (scale-cross (dot k l) (cross k m) k) ∙ ap (λ (t : Vector). cross (cross k m) t) directions_multiple
      ∙ scale-cross (dot k k) (cross k m) l ∙ ap (λ (t : Vector). scale_v (dot k k) t) foot_on_other)

-- ---- one key for one line
same_line : {k l : LineKey} → direction k ≡ direction l → moment k ≡ moment l → k ≡ l
same_line {k} {l} d m =
    λ i. record { dx = (d i).x; dy = (d i).y; dz = (d i).z; mx = (m i).x; my = (m i).y; mz = (m i).z }

-- keys in proportion are equal
proportional_keys : {p q r s : Plane} {k l : LineKey} → IsLineKey p q k → IsLineKey r s l → (j n : ℤ) → pos 0 <ℤ n →
    scale_v j (direction k) ≡ scale_v n (direction l) → scale_v j (moment k) ≡ scale_v n (moment l) → k ≡ l
proportional_keys {p} {q} {r} {s} {k} {l} hk hl j n pn ed em =
    same_line (scale_cancel n (direction k) (direction l) (positive_nonzero pn)
    (ap (λ (z : ℤ). scale_v z (direction k)) (sym equal) ∙ ed))
    (scale_cancel n (moment k) (moment l) (positive_nonzero pn)
    (ap (λ (z : ℤ). scale_v z (moment k)) (sym equal) ∙ em))
  where
    x : j *ℤ k.dx ≡ n *ℤ l.dx
    x = ap (λ (v : Vector). v.x) ed

    y : j *ℤ k.dy ≡ n *ℤ l.dy
    y = ap (λ (v : Vector). v.y) ed

    z : j *ℤ k.dz ≡ n *ℤ l.dz
    z = ap (λ (v : Vector). v.z) ed

    j_nonzero : j ≢ pos 0
    j_nonzero e =
        scale_nonzero n (direction l) zero_v (positive_nonzero pn)
        (sym ed ∙ ap (λ (a : ℤ). scale_v a (direction k)) e
        ∙ vector_identity (vector ∷ []) (λ v. scaleE (num (pos 0)) v ≈v zeroE) cancels_v (direction k))
        (direction_nonzero hl) refl

    pj : pos 0 <ℤ j
    pj =
        forward_factor j n (k.dx ∷ k.dy ∷ k.dz ∷ []) (l.dx ∷ l.dy ∷ l.dz ∷ [])
        ((j *ℤ k.dx) ∷ (j *ℤ k.dy) ∷ (j *ℤ k.dz) ∷ []) j_nonzero pn (refl, (refl, (refl, tt))) (
          sym x,
          (sym y, (sym z, tt)),
        ) hk.forward hl.forward

    size : unsigned_abs j ≡ unsigned_abs n
    size =
        factors_have_one_size j n (coordinates k) (coordinates l) (
          x,
          (y, (z, (ap (λ (v : Vector). v.x) em, (ap (λ (v : Vector). v.y) em, (ap (λ (v : Vector). v.z) em, tt))))),
        )
        hk.lowest hl.lowest

    equal : j ≡ n
    equal = omega (arith, ints, pj, pn, size)

abbrev spot_at : Vector → ℤ → Spot
spot_at x w = record { x = x.x; y = x.y; z = x.z; w = w }

same_meet_same_key : {p q r s : Plane} {k l : LineKey} → IsLineKey p q k → IsLineKey r s l → HaveSameMeet p q r s → k ≡ l
same_meet_same_key {p} {q} {r} {s} {k} {l} hk hl same =
    proportional_keys hk hl (dot (direction k) (direction l)) (dot (direction k) (direction k))
    (square_positive (direction k) (direction_nonzero hk))
    (directions_multiple (direction k) (moment k) (direction l) (moment l) (direction_nonzero hk)
    (moment_orthogonal hk) inside) (moments_multiple (direction k) (moment k) (direction l) (moment l)
    (direction_nonzero hk) (moment_orthogonal hk) inside)
  where
    inside : (x : Vector) (w : ℤ) → pos 0 <ℤ w → cross x (direction k) ≡ scale_v w (moment k) → cross x (direction l) ≡ scale_v w (moment l)
    inside x w p e =
        (points_of_key hl (spot_at x w)).1 ((same (spot_at x w) p).0 ((points_of_key hk (spot_at x w)).0 e))

-- keys are equal exactly for one line
pub line_keys_decide : {p q r s : Plane} {k l : LineKey} → IsLineKey p q k → IsLineKey r s l → (k ≡ l) ↔ HaveSameMeet p q r s
line_keys_decide {p} {q} {r} {s} {k} {l} hk hl = (
  λ e v w. (
    λ b. (points_of_key hl v).0 (subst (λ (k : LineKey). IsOnLine k v) e ((points_of_key hk v).1 b)),
    λ b. (points_of_key hk v).0 (subst (λ (k : LineKey). IsOnLine k v) (sym e) ((points_of_key hl v).1 b)),
  ),
  λ same. same_meet_same_key hk hl same,
)

-- ---- the key by a division
module _ {k l : LineKey} {d : ℤ} (m : IsMultiple d k l) (n : d ≢ pos 0) where
  entry_small : {b : ℕ} (x y : ℤ) → d *ℤ x ≡ y → Small b y → Small b x
  entry_small x y e s = quotient_small x d y n (*ℤ_comm x d ∙ e) s

  -- a line's coordinates are no larger than their multiples
  pub multiple_sized : IsLineSized l → IsLineSized k
  multiple_sized s =
      record {
        dx = entry_small k.dx l.dx (ap (λ (v : Vector). v.x) m.directions) s.dx;
        dy =
            entry_small k.dy l.dy (ap (λ (v : Vector). v.y) m.directions) s.dy;
        dz =
            entry_small k.dz l.dz (ap (λ (v : Vector). v.z) m.directions) s.dz;
        mx =
            entry_small k.mx l.mx (ap (λ (v : Vector). v.x) m.moments) s.mx;
        my =
            entry_small k.my l.my (ap (λ (v : Vector). v.y) m.moments) s.my;
        mz =
            entry_small k.mz l.mz (ap (λ (v : Vector). v.z) m.moments) s.mz;
      }

  -- what the greatest common divisor, with the sign of the direction, gives is the key
  pub multiple_key : (p q : Plane) → direction l ≡ direction_of p q → moment l ≡ moment_of p q →
      IsGreatestDivisor (coordinates l) (unsigned_abs d) → sign d ≡ first_sign (l.dx ∷ l.dy ∷ l.dz ∷ []) → IsLineKey p q k
  multiple_key p q ed em i s =
      let x = ap (λ (v : Vector). v.x) m.directions in let y = ap (λ (v : Vector). v.y) m.directions in let z = ap (λ (v : Vector). v.z) m.directions in
      record {
        factor = d;
        not_zero = n;
        same_direction = m.directions ∙ ed;
        same_moment = m.moments ∙ em;
        lowest =
            quotients_are_lowest (unsigned_abs d) d (coordinates k) (coordinates l) i refl (size_positive d n) (
              x,
              (
                y,
                (
                  z,
                  (
                    ap (λ (v : Vector). v.x) m.moments,
                    (ap (λ (v : Vector). v.y) m.moments, (ap (λ (v : Vector). v.z) m.moments, tt)),
                  ),
                ),
              ),
            );
        forward =
            forward_where_same_sign d (k.dx ∷ k.dy ∷ k.dz ∷ []) (l.dx ∷ l.dy ∷ l.dz ∷ []) n (x, (y, (z, tt))) s;
      }

-- ---- divisors of a line's coordinates
module _ (l : LineKey) (some : direction l ≢ zero_v) where
  -- 0 doesn't divide the coordinates
  pub divisor_nonzero : {d : ℕ} → d ∣ unsigned_abs l.dx → d ∣ unsigned_abs l.dy → d ∣ unsigned_abs l.dz → d ≢ 0
  divisor_nonzero {d} x y z e =
      some (same_v (divides_zero l.dx (subst (λ (n : ℕ). n ∣ unsigned_abs l.dx) e x))
      (divides_zero l.dy (subst (λ (n : ℕ). n ∣ unsigned_abs l.dy) e y))
      (divides_zero l.dz (subst (λ (n : ℕ). n ∣ unsigned_abs l.dz) e z)))

  below_entry : {d b : ℕ} (z : ℤ) → z ≢ pos 0 → d ∣ unsigned_abs z → Small b z → d ≤ b
  below_entry z n h s = omega (arith, le_of_dvd (size_positive z n) h, s.small)

  -- and what does is no larger than the direction's entries
  pub divisor_small : (d : ℕ) → IsLineSized l → Divides d (coordinates l) → Small most_cross (pos d)
  divisor_small d s h =
      record {
        small = by_sign l.dx (λ p. below_entry l.dx (positive_nonzero p) h.0 s.dx)
            (λ x. by_sign l.dy (λ p. below_entry l.dy (positive_nonzero p) h.1.0 s.dy)
            (λ y. by_sign l.dz (λ p. below_entry l.dz (positive_nonzero p) h.1.1.0 s.dz) (λ z. absurd (some (same_v x y z)))
            (λ p. below_entry l.dz (negative_nonzero p) h.1.1.0 s.dz))
            (λ p. below_entry l.dy (negative_nonzero p) h.1.0 s.dy)) (λ p. below_entry l.dx (negative_nonzero p) h.0 s.dx);
      }
