-- A point of a triangle's closed face is a sum of the corners with weights that aren't negative.
use Rattle.std.proofs.Common.{◌≡◌, ◌⊎◌, inl, inr, sym, ap, ◌∙◌, arith, true, false, not, [], ◌∷◌, ℤ, pos, ◌+ℤ◌, ◌*ℤ◌, neg_ℤ, ◌<ℤ◌, ◌≤ℤ◌}
use Rattle.std.proofs.lemmas.Bool.{and_parts}
use Rattle.ember_algebra.specs.Sign.{sign, is_positive}
use Rattle.ember_algebra.proofs.Laws.{linear}
use Rattle.ember_algebra.proofs.Order.{pos_mul}
use Rattle.ember_algebra.proofs.Ring.{◌⊕◌, ◌⊖◌, ◌⊗◌, ◌≈◌, num, neg, solve, cancels}
use Rattle.ember_model.specs.declared.point.Corner.{Corner}
use Rattle.ember_model.specs.declared.point.Spot.{Spot}
use Rattle.ember_model.specs.declared.plane.Plane.{Plane}
use Rattle.ember_model.specs.declared.tri.Tri.{Tri}
use Rattle.ember_model.specs.Planes.{unit, value_at, along, main_axis, times_plane, support_of, edge_through}
use Rattle.ember_model.specs.Points.{scaled, plus_s}
use Rattle.ember_model.specs.Faces.{is_flat, face_of, is_in_closed}
use Rattle.ember_model.specs.ClearTest.{none_positive}
use Rattle.ember_model.specs.Owners.{spot_of_corner}
use Rattle.ember_model.proofs.SignTests.{not_positive_out, size_positive, zero_scaled, zero_times}
use Rattle.ember_model.proofs.PlaneValues.{value_scaled, value_times, size-is}
use Rattle.ember_model.proofs.Hits.{closed_parts, weight_plane, weight_is}
use Rattle.ember_model.proofs.Tuples.{same_spot}
use Rattle.ember_law.proofs.CornerSides.{main_entry, by_corners}
use Rattle.ember_law.proofs.Separation.{combination_value}
use Rattle.ember_alone.specs.Touch.{IsCommonCorner, IsInCommon}

-- ---- points by the values of planes
-- the values of every plane at a point, times `factor`, are these sums of its values at two corners
abbrev pub IsSum : ℤ → Spot → ℤ → Corner → ℤ → Corner → Type 0
IsSum factor x k b m c =
    (g : Plane) → factor *ℤ value_at g x ≡ k *ℤ value_at g (spot_of_corner b) +ℤ m *ℤ value_at g (spot_of_corner c)

abbrev first_plane : Plane
first_plane = record { a = pos 1; b = pos 0; c = pos 0; d = pos 0 }

abbrev second_plane : Plane
second_plane = record { a = pos 0; b = pos 1; c = pos 0; d = pos 0 }

abbrev third_plane : Plane
third_plane = record { a = pos 0; b = pos 0; c = pos 1; d = pos 0 }

first_is : (v : Spot) → value_at first_plane v ≡ v.x
first_is v = solve 4 (λ x y z w. num (pos 1) ⊗ x ⊕ num (pos 0) ⊗ y ⊕ num (pos 0) ⊗ z ⊖ num (pos 0) ⊗ w ≈ x) cancels v.x v.y v.z v.w

second_is : (v : Spot) → value_at second_plane v ≡ v.y
second_is v = solve 4 (λ x y z w. num (pos 0) ⊗ x ⊕ num (pos 1) ⊗ y ⊕ num (pos 0) ⊗ z ⊖ num (pos 0) ⊗ w ≈ y) cancels v.x v.y v.z v.w

third_is : (v : Spot) → value_at third_plane v ≡ v.z
third_is v = solve 4 (λ x y z w. num (pos 0) ⊗ x ⊕ num (pos 0) ⊗ y ⊕ num (pos 1) ⊗ z ⊖ num (pos 0) ⊗ w ≈ z) cancels v.x v.y v.z v.w

-- points at which all planes have the same values are equal
same_values : (u v : Spot) → ((g : Plane) → value_at g u ≡ value_at g v) → u ≡ v
same_values u v h =
    same_spot (sym (first_is u) ∙ h first_plane ∙ first_is v) (sym (second_is u) ∙ h second_plane ∙ second_is v)
    (sym (third_is u) ∙ h third_plane ∙ third_is v) (sym (weight_is u) ∙ h weight_plane ∙ weight_is v)

-- ---- two corners
-- a sum of two corners, of which each is common or has the weight 0, is in common
pub sum_is_in_common : (t u : Tri) (x : Spot) (b c : Corner) (factor k m : ℤ) → pos 0 <ℤ x.w → pos 0 <ℤ factor →
    pos 0 ≤ℤ k → pos 0 ≤ℤ m → IsSum factor x k b m c → (k ≡ pos 0) ⊎ IsCommonCorner t u b →
    (m ≡ pos 0) ⊎ IsCommonCorner t u c → IsInCommon t u x
sum_is_in_common t u x b c factor k m w pf pk pm sum hb hc = by hb hc
  where
    none : k ≡ pos 0 → m ≡ pos 0 → IsInCommon t u x
    none zk zm =
        let e = sum weight_plane in let f = ap (λ (z : ℤ). factor *ℤ z) (weight_is x) in let p = pos_mul pf w in
        let y = zero_times k (value_at weight_plane (spot_of_corner b)) zk in
        let z = zero_times m (value_at weight_plane (spot_of_corner c)) zm in absurd (omega (arith, linear, e, f, p, y, z))

    -- between the corners v and r
    between : (v r : Corner) → IsCommonCorner t u v → IsCommonCorner t u r → IsSum factor x k v m r → IsInCommon t u x
    between v r hv hr s =
        record {
          from = v;
          to = r;
          common_from = hv;
          common_to = hr;
          on = record {
            factor = factor;
            of_u = k;
            of_v = m;
            positive = pf;
            u_low = pk;
            v_low = pm;
            sum = same_values (scaled factor x) (plus_s (scaled k (spot_of_corner v)) (scaled m (spot_of_corner r)))
                (λ g. value_scaled factor g x ∙ s g ∙ sym (combination_value g k m (spot_of_corner v) (spot_of_corner r)));
          };
        }

    by : (k ≡ pos 0) ⊎ IsCommonCorner t u b → (m ≡ pos 0) ⊎ IsCommonCorner t u c → IsInCommon t u x
    by (inl zk) (inl zm) = none zk zm
    by (inl zk) (inr hc) =
        between c c hc hc
        (λ g. let e = sum g in let y = zero_times k (value_at g (spot_of_corner b)) zk in let z = zero_times k (value_at g (spot_of_corner c)) zk in
        omega (arith, linear, e, y, z))
    by (inr hb) (inl zm) =
        between b b hb hb
        (λ g. let e = sum g in let y = zero_times m (value_at g (spot_of_corner c)) zm in let z = zero_times m (value_at g (spot_of_corner b)) zm in
        omega (arith, linear, e, y, z))
    by (inr hb) (inr hc) = between b c hb hc sum

-- ---- three corners
-- the values of every plane at a point of the closed face are sums of its values at the corners
pub record Weights (t : Tri) (x : Spot) : Type 0 where
  pub factor : ℤ
  pub of_a : ℤ
  pub of_b : ℤ
  pub of_c : ℤ
  pub positive : pos 0 <ℤ factor
  pub a_low : pos 0 ≤ℤ of_a
  pub b_low : pos 0 ≤ℤ of_b
  pub c_low : pos 0 ≤ℤ of_c
  pub sum : (g : Plane) → factor *ℤ value_at g x ≡ of_a *ℤ value_at g (spot_of_corner t.a) +ℤ of_b *ℤ value_at g
      (spot_of_corner t.b) +ℤ of_c *ℤ value_at g (spot_of_corner t.c)

-- the value at x by the values at the corners, times the sign of the normal along k, on the support plane
with_sign : (s n v e f g a b c k z : ℤ) → z ≡ pos 0 → n *ℤ v ≡ neg_ℤ (e *ℤ a +ℤ f *ℤ b +ℤ g *ℤ c) +ℤ k *ℤ z →
    s *ℤ n *ℤ v ≡ neg_ℤ (s *ℤ e) *ℤ a +ℤ neg_ℤ (s *ℤ f) *ℤ b +ℤ neg_ℤ (s *ℤ g) *ℤ c
with_sign s n v e f g a b c k z hz h =
    let o = zero_scaled k z hz in let r = zero_scaled s (k *ℤ z) o in
    omega (
      arith,
      linear,
      ap (λ (u : ℤ). s *ℤ u) h,
      r,
      solve 3 (λ s n v. s ⊗ n ⊗ v ≈ s ⊗ (n ⊗ v)) cancels s n v,
      solve 9 (λ s e f g a b c k z. s ⊗ (neg (e ⊗ a ⊕ f ⊗ b ⊕ g ⊗ c) ⊕ k ⊗ z) ≈ neg (s ⊗ e) ⊗ a ⊕ neg (s ⊗ f) ⊗ b ⊕ neg
          (s ⊗ g) ⊗ c ⊕ s ⊗ (k ⊗ z)) cancels s e f g a b c k z,
    )

-- each point of the closed face of a triangle that isn't flat has weights
pub closed_has_weights : (t : Tri) (x : Spot) → is_flat t ≡ false → is_in_closed (face_of t) x ≡ true → Weights t x
unfolding face_of
closed_has_weights t x nf h =
    let n = support_of t in let k = main_axis n in let s = sign (along n k) in
    let ab = edge_through t.a t.b (unit k) in let bc = edge_through t.b t.c (unit k) in let ca = edge_through t.c t.a (unit k) in
    let i = closed_parts (face_of t) x h in
    let u = and_parts (not (is_positive (value_at (times_plane s ab) x))) (none_positive (times_plane s bc ∷ times_plane s ca ∷ []) x) i.2 in
    let v = and_parts (not (is_positive (value_at (times_plane s bc) x))) (none_positive (times_plane s ca ∷ []) x) u.1 in
    let w = and_parts (not (is_positive (value_at (times_plane s ca) x))) true v.1 in
    record {
      factor = s *ℤ along n k;
      of_a = neg_ℤ (s *ℤ value_at bc x);
      of_b = neg_ℤ (s *ℤ value_at ca x);
      of_c = neg_ℤ (s *ℤ value_at ab x);
      positive = let q = size_positive (along n k) (main_entry t nf) in let r = size-is (along n k) in omega (arith, linear, q, r);
      a_low = let q = not_positive_out (value_at (times_plane s bc) x) v.0 in let r = value_times s bc x in omega (arith, linear, q, r);
      b_low = let q = not_positive_out (value_at (times_plane s ca) x) w.0 in let r = value_times s ca x in omega (arith, linear, q, r);
      c_low = let q = not_positive_out (value_at (times_plane s ab) x) u.0 in let r = value_times s ab x in omega (arith, linear, q, r);
      sum = λ g. with_sign s (along n k) (value_at g x) (value_at bc x) (value_at ca x) (value_at ab x)
          (value_at g (spot_of_corner t.a)) (value_at g (spot_of_corner t.b)) (value_at g (spot_of_corner t.c)) (along g k)
          (value_at n x) i.1 (by_corners t g x k);
    }
