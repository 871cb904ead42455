-- A corner of the tables and a corner of an outline that are one point: heights and turns have the same signs.
use Rattle.std.proofs.Common.{◌≡◌, ◌≢◌, ⊎_elim, sym, ap, ◌∙◌, arith, [], ◌∷◌, ℤ, pos, ◌-ℤ◌, ◌*ℤ◌, ◌<ℤ◌}
use lib.IntN.{*ℤ-zero}
use Rattle.ember_algebra.specs.Vector.{Vector, zero_v, plus_v, scale_v, dot, cross, det}
use Rattle.ember_algebra.specs.Sign.{sign, sgn, flip}
use Rattle.ember_algebra.proofs.Laws.{linear, from_three}
use Rattle.ember_algebra.proofs.Order.{by_sign, sign_pos, sign_neg, zero_product}
use Rattle.ember_algebra.proofs.Ring.{◌⊕◌, ◌⊖◌, ◌⊗◌, ◌≈◌, num, cancels}
use Rattle.ember_algebra.proofs.Signs.{sgn-neg}
use Rattle.ember_algebra.proofs.Vectors.{vector, tuple, identity, vector_identity, same_v, dotE, crossE, detE, valueE, scaleE, plusE, ◌≈v◌, cancels_v}
use Rattle.ember_model.specs.declared.plane.Plane.{Plane}
use Rattle.ember_model.specs.declared.point.Spot.{Spot}
use Rattle.ember_model.specs.Edges.{normal, SamePoint}
use Rattle.ember_model.specs.Planes.{value_at}
use Rattle.ember_model.proofs.SignTests.{sgn_scaled, zero_scaled, positive_nonzero}
use Rattle.ember_model.proofs.Tuples.{plane_tuple, spot_tuple}
use Rattle.ember_model.specs.Points.{displacement}
use Rattle.ember_point.specs.Points.{weight, meet_of}
use Rattle.ember_point.proofs.Meets.{on_first, on_second, on_third}
use Rattle.ember_meaning.proofs.Displacements.{zeroE}
use Rattle.ember_meaning.proofs.EdgeForm.{flat_displacement}
use Rattle.mesh_solid.specs.Tables.Tables.{IsCorner}
use Rattle.mesh_solid.proofs.Passings.{passing}
use Rattle.mesh_solid.proofs.Seen.{area, height, turn_at, passing_at, area_none, height_step, turn_back}

-- ---- one point
-- a vector that is orthogonal to three normals of weight other than 0 is 0
orthogonal_to_three : (p q r v : Vector) → det p q r ≢ pos 0 → dot p v ≡ pos 0 → dot q v ≡ pos 0 → dot r v ≡ pos 0 → v ≡ zero_v
orthogonal_to_three p q r v n a b c =
    same_v (entry (ap (λ (v : Vector). v.x) whole)) (entry (ap (λ (v : Vector). v.y) whole)) (entry (ap (λ (v : Vector). v.z) whole))
  where
    whole : scale_v (det p q r) v ≡ zero_v
    whole =
        vector_identity (vector ∷ vector ∷ vector ∷ vector ∷ [])
        (λ p q r v. scaleE (detE p q r) v ≈v plusE
        (plusE (scaleE (dotE p v) (crossE q r)) (scaleE (dotE q v) (crossE r p))) (scaleE (dotE r v) (crossE p q)))
        cancels_v p q r v ∙ (λ i. plus_v (plus_v (scale_v (a i) (cross q r)) (scale_v (b i) (cross r p)))
        (scale_v (c i) (cross p q))) ∙ vector_identity (vector ∷ vector ∷ vector ∷ [])
        (λ u v w. plusE (plusE (scaleE (num (pos 0)) u) (scaleE (num (pos 0)) v)) (scaleE (num (pos 0)) w) ≈v zeroE)
        cancels_v (cross q r) (cross r p) (cross p q)

    entry : {z : ℤ} → det p q r *ℤ z ≡ pos 0 → z ≡ pos 0
    entry e = ⊎_elim (λ z. absurd (n z)) (λ z. z) (zero_product e)

-- a point on the three planes of a corner is the corner
pub is_the_corner : (p q r : Plane) (c u : Spot) → IsCorner p q r c → value_at p c ≡ pos 0 → value_at q c ≡ pos 0 →
    value_at r c ≡ pos 0 → value_at p u ≡ pos 0 → value_at q u ≡ pos 0 → value_at r u ≡ pos 0 → displacement u c ≡ zero_v
is_the_corner p q r c u k pc qc rc pu qu ru =
    orthogonal_to_three (normal p) (normal q) (normal r) (displacement u c) k.one (flat_displacement p u c pu pc)
    (flat_displacement q u c qu qc) (flat_displacement r u c ru rc)

-- the weight of a meet of three planes that have one is positive
pub meet_weight : (p q r : Plane) → weight p q r ≢ pos 0 → pos 0 <ℤ (meet_of p q r).w
meet_weight p q r n = by (weight p q r) n
  where
    by : (z : ℤ) → z ≢ pos 0 → pos 0 <ℤ (sign z *ℤ z)
    by z n =
        by_sign z (λ l. let s = sign_pos l in rw s (omega (arith, linear, l))) (λ e. absurd (n e)) (λ l. let s = sign_neg l in rw s (omega (arith, linear, l)))

-- a plane's value at a point is 0 where it is 0 at the same point
value_same : (h : Plane) (m c : Spot) → SamePoint m c → m.w ≢ pos 0 → value_at h m ≡ pos 0 → value_at h c ≡ pos 0
value_same h m c s n z =
    ⊎_elim (λ e. absurd (n e)) (λ e. e) (zero_product (same_value ∙ ap (λ (v : ℤ). c.w *ℤ v) z ∙ *ℤ-zero c.w))
  where
    -- m.w * h(c) is c.w * h(m)
    same_value : m.w *ℤ value_at h c ≡ c.w *ℤ value_at h m
    same_value =
        from_three h.a h.b h.c (sym s.x) (sym s.y) (sym s.z)
        (identity (tuple ∷ tuple ∷ tuple ∷ [])
        (λ h m c. m.w ⊗ valueE h c ⊖ c.w ⊗ valueE h m ≈ h.x ⊗ (m.w ⊗ c.x ⊖ c.w ⊗ m.x) ⊕ h.y ⊗ (m.w ⊗ c.y ⊖ c.w ⊗ m.y)
        ⊕ h.z ⊗ (m.w ⊗ c.z ⊖ c.w ⊗ m.z)) cancels (plane_tuple h) (spot_tuple m) (spot_tuple c))

-- a corner is on its three planes
pub record IsOnThree (p q r : Plane) (c : Spot) : Type 0 where
  pub first : value_at p c ≡ pos 0
  pub second : value_at q c ≡ pos 0
  pub third : value_at r c ≡ pos 0

pub corner_on_three : (p q r : Plane) (c : Spot) → IsCorner p q r c → pos 0 <ℤ (meet_of p q r).w → IsOnThree p q r c
corner_on_three p q r c k w =
    let m = meet_of p q r in let n = positive_nonzero w in
    record {
      first = value_same p m c k.same n (on_first p q r);
      second =
          value_same q m c k.same n (on_second p q r);
      third = value_same r m c k.same n (on_third p q r);
    }

-- ---- the same signs
module _ (n : Plane) (e : Vector) (x : Spot) (wx : pos 0 <ℤ x.w) (u c : Spot) (wu : pos 0 <ℤ u.w) (wc : pos 0 <ℤ c.w) (same : displacement u c ≡ zero_v) where
  -- equal multiples by positive numbers have one sign
  one_sign : (a b : ℤ) → u.w *ℤ b -ℤ c.w *ℤ a ≡ pos 0 → sgn a ≡ sgn b
  one_sign a b z = sym (sgn_scaled a wc) ∙ ap sgn (equal z) ∙ sgn_scaled b wu
    where
      equal : u.w *ℤ b -ℤ c.w *ℤ a ≡ pos 0 → c.w *ℤ a ≡ u.w *ℤ b
      equal z = omega (arith, linear, z)

  none_over : (a : Vector) → area n a (displacement u c) ≡ pos 0
  none_over a = ap (λ (v : Vector). area n a v) same ∙ area_none n a

  -- both corners are at one height
  pub same_height : sgn (height n e x u) ≡ sgn (height n e x c)
  same_height = one_sign (height n e x u) (height n e x c) (height_step n e x u c ∙ zero_scaled x.w (area n e (displacement u c)) (none_over e))

  -- and turn alike, as first corners and as second ones
  pub same_turn_second : (v : Spot) → sgn (turn_at n x v u) ≡ sgn (turn_at n x v c)
  same_turn_second v = one_sign (turn_at n x v u) (turn_at n x v c)
      (height_step n (displacement x v) x u c ∙ zero_scaled x.w (area n (displacement x v) (displacement u c))
      (none_over (displacement x v)))

  pub same_turn_first : (v : Spot) → sgn (turn_at n x u v) ≡ sgn (turn_at n x c v)
  same_turn_first v =
      ap sgn (turn_back n x v u) ∙ sgn-neg (turn_at n x v u) ∙ ap flip (same_turn_second v) ∙ sym (sgn-neg (turn_at n x v c)) ∙ sym (ap sgn (turn_back n x v c))

-- the ray passes the ways between the one corners as between the others
pub same_passing : (n : Plane) (e : Vector) (x u v c d : Spot) → pos 0 <ℤ x.w → pos 0 <ℤ u.w → pos 0 <ℤ v.w →
    pos 0 <ℤ c.w → pos 0 <ℤ d.w → displacement u c ≡ zero_v → displacement v d ≡ zero_v →
    passing_at n e x u v ≡ passing_at n e x c d
same_passing n e x u v c d wx wu wv wc wd su sv =
    let a = same_height n e x wx u c wu wc su in let b = same_height n e x wx v d wv wd sv in
    let t = same_turn_first n e x wx u c wu wc su v ∙ same_turn_second n e x wx v d wv wd sv c in
    λ i. passing (a i) (b i) (t i)
