-- Triangles that two planes of one face part conform.
use Rattle.std.proofs.Common.{◌≡◌, ◌⊎◌, ⊎_elim, inl, inr, refl, sym, ap, ◌∙◌, arith, Bool, true, false, not, ◌&&◌, ◌||◌, List, [], ◌∷◌, map, ℤ, pos, ◌+ℤ◌, ◌*ℤ◌, neg_ℤ, ◌<ℤ◌, ◌≤ℤ◌}
use Rattle.std.specs.List.{list_any}
use Rattle.std.proofs.lemmas.Bool.{and_parts, or_cases}
use Rattle.ember_algebra.specs.Sign.{is_positive, is_zero}
use Rattle.ember_algebra.proofs.Laws.{linear, *ℤ-neg}
use Rattle.ember_algebra.proofs.Order.{by_sign, pos_mul, nonneg_mul}
use Rattle.ember_model.specs.declared.point.Corner.{Corner}
use Rattle.ember_model.specs.declared.point.Spot.{Spot}
use Rattle.ember_model.specs.declared.plane.Plane.{Plane}
use Rattle.ember_model.specs.declared.tri.Tri.{Tri}
use Rattle.ember_model.specs.Planes.{value_at, support_of}
use Rattle.ember_model.specs.Faces.{is_flat, face_of, edges_of, is_in_closed}
use Rattle.ember_model.specs.Meshes.{same_corner}
use Rattle.ember_model.specs.Owners.{spot_of_corner}
use Rattle.ember_model.proofs.SignTests.{In, any_out, clash, positive_out, zero_out, zero_times}
use Rattle.ember_model.proofs.PlaneValues.{value-opposite}
use Rattle.ember_model.proofs.SameEdges.{same_corner_out}
use Rattle.ember_model.proofs.Hits.{closed_parts}
use Rattle.ember_model.proofs.LastZero.{none_positive_member}
use Rattle.ember_width.specs.declared.heights.Heights.{Heights}
use Rattle.ember_alone.specs.Touch.{HasCorner, IsCommonCorner, IsInCommon, Conform}
use Rattle.ember_width.specs.Heights.{heights_of}
use Rattle.ember_alone.specs.Parting.{has_corner, common_corners, is_beyond, is_some_in_front, are_beyond, planes_of, heights_over}
use Rattle.ember_alone.specs.Parting.{is_parted, may_touch}
use Rattle.ember_alone.proofs.Common.{conform_turned}
use Rattle.ember_alone.proofs.Weights.{sum_is_in_common, Weights, closed_has_weights}

-- ---- one corner of u
-- the test finds a corner of t
has_corner_out : (t : Tri) (c : Corner) → has_corner t c ≡ true → HasCorner t c
has_corner_out t c e =
    ⊎_elim (λ h. inl (same_corner_out c t.a h))
    (λ h. ⊎_elim (λ i. inr (inl (same_corner_out c t.b i))) (λ i. inr (inr (same_corner_out c t.c i)))
    (or_cases (same_corner c t.b) (same_corner c t.c) h))
    (or_cases (same_corner c t.a) (same_corner c t.b || same_corner c t.c) e)

-- it lies in front of the first plane; or on it and in front of the second; or on both, and is a corner of t
abbrev Beyond : Tri → Plane → Plane → Corner → Type 0
Beyond t g h c =
    (pos 0 <ℤ value_at g (spot_of_corner c)) ⊎ ((value_at g (spot_of_corner c) ≡ pos 0) ×
    ((pos 0 <ℤ value_at h (spot_of_corner c)) ⊎ ((value_at h (spot_of_corner c) ≡ pos 0) × HasCorner t c)))

beyond_out : (t : Tri) (g h : Plane) (c : Corner) →
    is_beyond (value_at g (spot_of_corner c)) (value_at h (spot_of_corner c)) (has_corner t c) ≡ true → Beyond t g h c
beyond_out t g h c e =
    let v = value_at g (spot_of_corner c) in let w = value_at h (spot_of_corner c) in
    ⊎_elim (λ k. inl (positive_out v k))
    (λ k. let p = and_parts (is_zero v) (is_positive w || (is_zero w && has_corner t c)) k in
    inr (
      zero_out v p.0,
      ⊎_elim (λ l. inl (positive_out w l)) (λ l. let q = and_parts (is_zero w) (has_corner t c) l in
          inr (zero_out w q.0, has_corner_out t c q.1)) (or_cases (is_positive w) (is_zero w && has_corner t c) p.1),
    ))
    (or_cases (is_positive v) (is_zero v && (is_positive w || (is_zero w && has_corner t c))) e)

first_low : (t : Tri) (g h : Plane) (c : Corner) → Beyond t g h c → pos 0 ≤ℤ value_at g (spot_of_corner c)
first_low t g h c (inl l) = omega (arith, linear, l)
first_low t g h c (inr z) = let e = z.0 in omega (arith, linear, e)

-- if a corner in front of the first plane has no weight, its weighted value of the second one isn't negative
second_low : (t : Tri) (g h : Plane) (c : Corner) (k : ℤ) → pos 0 ≤ℤ k → Beyond t g h c →
    (pos 0 <ℤ value_at g (spot_of_corner c) → k ≡ pos 0) → pos 0 ≤ℤ (k *ℤ value_at h (spot_of_corner c))
second_low t g h c k low (inl l) none = let e = zero_times k (value_at h (spot_of_corner c)) (none l) in omega (arith, linear, e)
second_low t g h c k low (inr z) none = nonneg_mul low (by z.1)
  where
    by : (pos 0 <ℤ value_at h (spot_of_corner c)) ⊎ ((value_at h (spot_of_corner c) ≡ pos 0) × HasCorner t c) → pos 0 ≤ℤ value_at h (spot_of_corner c)
    by (inl l) = omega (arith, linear, l)
    by (inr z) = let e = z.0 in omega (arith, linear, e)

-- so it has no weight, or is common
weightless_or_common : (t : Tri) (g h : Plane) (c : Corner) (k : ℤ) → Beyond t g h c → (pos 0 <ℤ value_at g (spot_of_corner c) → k ≡ pos 0) →
    (pos 0 <ℤ value_at h (spot_of_corner c) → k ≡ pos 0) → (k ≡ pos 0) ⊎ HasCorner t c
weightless_or_common t g h c k (inl l) first second = inl (first l)
weightless_or_common t g h c k (inr z) first second = ⊎_elim (λ l. inl (second l)) (λ e. inr e.1) z.1

-- where a sum of values that aren't negative isn't positive, a corner in front has no weight
weightless : (k v rest : ℤ) → pos 0 ≤ℤ k → pos 0 <ℤ v → pos 0 ≤ℤ rest → (k *ℤ v +ℤ rest) ≤ℤ pos 0 → k ≡ pos 0
weightless k v rest lk lv lr l =
    by_sign k (λ p. let m = pos_mul p lv in absurd (omega (arith, linear, m, lr, l))) (λ z. z) (λ p. absurd (omega (arith, linear, p, lk)))

-- a plane that has no point of t in front is at most 0 at a shared point
low_sum : (u : Tri) (g : Plane) (x : Spot) (w : Weights u x) → value_at g x ≤ℤ pos 0 → (w.of_a *ℤ value_at g (spot_of_corner u.a) +ℤ
    w.of_b *ℤ value_at g (spot_of_corner u.b) +ℤ w.of_c *ℤ value_at g (spot_of_corner u.c)) ≤ℤ pos 0
low_sum u g x w l =
    let n : pos 0 ≤ℤ neg_ℤ (value_at g x) = omega (arith, linear, l) in
    let f : pos 0 ≤ℤ w.factor = let p = w.positive in omega (arith, linear, p) in
    let m = nonneg_mul f n in let e = w.sum g in omega (arith, linear, m, e, *ℤ-neg w.factor (value_at g x))

-- two planes that have no point of t's closed face in front, and all corners of u beyond
module _ (t u : Tri) (g h : Plane) (low : (x : Spot) → is_in_closed (face_of t) x ≡ true → value_at g x ≤ℤ pos 0)
    (low_too : (x : Spot) → is_in_closed (face_of t) x ≡ true → value_at h x ≤ℤ pos 0) (ha : Beyond t g h u.a)
    (hb : Beyond t g h u.b) (hc : Beyond t g h u.c) where
  abbrev at : Plane → Corner → ℤ
  at g c = value_at g (spot_of_corner c)

  module _ (x : Spot) (in_t : is_in_closed (face_of t) x ≡ true) (in_u : is_in_closed (face_of u) x ≡ true) (w : Weights u x) where
    -- the weights of corners in front of a plane, if no weighted value is negative
    module _ (p : Plane) (below : value_at p x ≤ℤ pos 0) (pa : pos 0 ≤ℤ (w.of_a *ℤ at p u.a)) (pb : pos 0 ≤ℤ (w.of_b *ℤ at p u.b))
        (pc : pos 0 ≤ℤ (w.of_c *ℤ at p u.c)) where
      zero_a : pos 0 <ℤ at p u.a → w.of_a ≡ pos 0
      zero_a l = let s = low_sum u p x w below in
          weightless w.of_a (at p u.a) (w.of_b *ℤ at p u.b +ℤ w.of_c *ℤ at p u.c) w.a_low l (omega (arith, linear, pb, pc)) (omega (arith, linear, s))

      zero_b : pos 0 <ℤ at p u.b → w.of_b ≡ pos 0
      zero_b l = let s = low_sum u p x w below in
          weightless w.of_b (at p u.b) (w.of_a *ℤ at p u.a +ℤ w.of_c *ℤ at p u.c) w.b_low l (omega (arith, linear, pa, pc)) (omega (arith, linear, s))

      zero_c : pos 0 <ℤ at p u.c → w.of_c ≡ pos 0
      zero_c l = let s = low_sum u p x w below in
          weightless w.of_c (at p u.c) (w.of_a *ℤ at p u.a +ℤ w.of_b *ℤ at p u.b) w.c_low l (omega (arith, linear, pa, pb)) (omega (arith, linear, s))

    ga : pos 0 ≤ℤ (w.of_a *ℤ at g u.a)
    ga = nonneg_mul w.a_low (first_low t g h u.a ha)

    gb : pos 0 ≤ℤ (w.of_b *ℤ at g u.b)
    gb = nonneg_mul w.b_low (first_low t g h u.b hb)

    gc : pos 0 ≤ℤ (w.of_c *ℤ at g u.c)
    gc = nonneg_mul w.c_low (first_low t g h u.c hc)

    first_a : pos 0 <ℤ at g u.a → w.of_a ≡ pos 0
    first_a = zero_a g (low x in_t) ga gb gc

    first_b : pos 0 <ℤ at g u.b → w.of_b ≡ pos 0
    first_b = zero_b g (low x in_t) ga gb gc

    first_c : pos 0 <ℤ at g u.c → w.of_c ≡ pos 0
    first_c = zero_c g (low x in_t) ga gb gc

    ka : pos 0 ≤ℤ (w.of_a *ℤ at h u.a)
    ka = second_low t g h u.a w.of_a w.a_low ha first_a

    kb : pos 0 ≤ℤ (w.of_b *ℤ at h u.b)
    kb = second_low t g h u.b w.of_b w.b_low hb first_b

    kc : pos 0 ≤ℤ (w.of_c *ℤ at h u.c)
    kc = second_low t g h u.c w.of_c w.c_low hc first_c

    second_a : pos 0 <ℤ at h u.a → w.of_a ≡ pos 0
    second_a = zero_a h (low_too x in_t) ka kb kc

    second_b : pos 0 <ℤ at h u.b → w.of_b ≡ pos 0
    second_b = zero_b h (low_too x in_t) ka kb kc

    second_c : pos 0 <ℤ at h u.c → w.of_c ≡ pos 0
    second_c = zero_c h (low_too x in_t) ka kb kc

    case_a : (w.of_a ≡ pos 0) ⊎ IsCommonCorner t u u.a
    case_a = ⊎_elim (λ z. inl z) (λ c. inr (record { first = c; second = inl refl })) (weightless_or_common t g h u.a w.of_a ha first_a second_a)

    case_b : (w.of_b ≡ pos 0) ⊎ IsCommonCorner t u u.b
    case_b = ⊎_elim (λ z. inl z) (λ c. inr (record { first = c; second = inr (inl refl) })) (weightless_or_common t g h u.b w.of_b hb first_b second_b)

    case_c : (w.of_c ≡ pos 0) ⊎ IsCommonCorner t u u.c
    case_c = ⊎_elim (λ z. inl z) (λ c. inr (record { first = c; second = inr (inr refl) })) (weightless_or_common t g h u.c w.of_c hc first_c second_c)

    weight : pos 0 <ℤ x.w
    weight = (closed_parts (face_of u) x in_u).0

    without_a : w.of_a ≡ pos 0 → IsInCommon t u x
    without_a z =
        sum_is_in_common t u x u.b u.c w.factor w.of_b w.of_c weight w.positive w.b_low w.c_low
        (λ p. let e = w.sum p in let o = zero_times w.of_a (value_at p (spot_of_corner u.a)) z in omega (arith, linear, e, o)) case_b case_c

    without_b : w.of_b ≡ pos 0 → IsInCommon t u x
    without_b z =
        sum_is_in_common t u x u.a u.c w.factor w.of_a w.of_c weight w.positive w.a_low w.c_low
        (λ p. let e = w.sum p in let o = zero_times w.of_b (value_at p (spot_of_corner u.b)) z in omega (arith, linear, e, o)) case_a case_c

    without_c : w.of_c ≡ pos 0 → IsInCommon t u x
    without_c z =
        sum_is_in_common t u x u.a u.b w.factor w.of_a w.of_b weight w.positive w.a_low w.b_low
        (λ p. let e = w.sum p in let o = zero_times w.of_c (value_at p (spot_of_corner u.c)) z in omega (arith, linear, e, o)) case_a case_b

    by_first : (pos 0 <ℤ at g u.a) ⊎ ((pos 0 <ℤ at g u.b) ⊎ (pos 0 <ℤ at g u.c)) → IsInCommon t u x
    by_first (inl l) = without_a (first_a l)
    by_first (inr (inl l)) = without_b (first_b l)
    by_first (inr (inr l)) = without_c (first_c l)

    by_second : (pos 0 <ℤ at h u.a) ⊎ ((pos 0 <ℤ at h u.b) ⊎ (pos 0 <ℤ at h u.c)) → IsInCommon t u x
    by_second (inl l) = without_a (second_a l)
    by_second (inr (inl l)) = without_b (second_b l)
    by_second (inr (inr l)) = without_c (second_c l)

-- ---- the test
some_in_front : (g : Plane) (u : Tri) → is_some_in_front (heights_of g u) ≡ true → (pos 0 <ℤ value_at g (spot_of_corner u.a)) ⊎
    ((pos 0 <ℤ value_at g (spot_of_corner u.b)) ⊎ (pos 0 <ℤ value_at g (spot_of_corner u.c)))
some_in_front g u e =
    let a = value_at g (spot_of_corner u.a) in let b = value_at g (spot_of_corner u.b) in let c = value_at g (spot_of_corner u.c) in
    ⊎_elim (λ h. inl (positive_out a h))
    (λ h. ⊎_elim (λ i. inr (inl (positive_out b i))) (λ i. inr (inr (positive_out c i))) (or_cases (is_positive b) (is_positive c) h))
    (or_cases (is_positive a) (is_positive b || is_positive c) e)

parted_by : (t u : Tri) (g h : Plane) → ((x : Spot) → is_in_closed (face_of t) x ≡ true → value_at g x ≤ℤ pos 0) →
    ((x : Spot) → is_in_closed (face_of t) x ≡ true → value_at h x ≤ℤ pos 0) →
    are_beyond (heights_of g u) (heights_of h u) (common_corners t u) ≡ true → Conform t u
parted_by t u g h low low_too e =
    let a = is_beyond (value_at g (spot_of_corner u.a)) (value_at h (spot_of_corner u.a)) (has_corner t u.a) in
    let b = is_beyond (value_at g (spot_of_corner u.b)) (value_at h (spot_of_corner u.b)) (has_corner t u.b) in
    let c = is_beyond (value_at g (spot_of_corner u.c)) (value_at h (spot_of_corner u.c)) (has_corner t u.c) in
    let f = is_some_in_front (heights_of g u) || is_some_in_front (heights_of h u) in
    let p = and_parts (a && (b && c)) f e in let q = and_parts a (b && c) p.0 in let r = and_parts b c q.1 in
    let ha = beyond_out t g h u.a q.0 in let hb = beyond_out t g h u.b r.0 in let hc = beyond_out t g h u.c r.1 in
    record {
      common = λ ft fu x hx hy. let w = closed_has_weights u x fu hy in
          ⊎_elim (λ s. by_first t u g h low low_too ha hb hc x hx hy w (some_in_front g u s))
          (λ s. by_second t u g h low low_too ha hb hc x hx hy w (some_in_front h u s))
          (or_cases (is_some_in_front (heights_of g u)) (is_some_in_front (heights_of h u)) p.1);
    }

-- no point of the closed face lies in front of one of these planes
planes_are_low : (t : Tri) (g : Plane) → In g (planes_of t) → (x : Spot) → is_in_closed (face_of t) x ≡ true → value_at g x ≤ℤ pos 0
unfolding face_of
planes_are_low t g (inl e) x h =
    let z = (closed_parts (face_of t) x h).1 in let f = ap (λ (p : Plane). value_at p x) e in omega (arith, linear, z, f)
planes_are_low t g (inr (inl e)) x h =
    let z = (closed_parts (face_of t) x h).1 in let f = ap (λ (p : Plane). value_at p x) e in let o = value-opposite (support_of t) x in
    omega (arith, linear, z, f, o)
planes_are_low t g (inr (inr m)) x h = none_positive_member x (edges_of t) g (closed_parts (face_of t) x h).2 m

-- the plane of which a member has the values
record HasPlane (u : Tri) (ps : List Plane) (v : Heights) : Type 0 where
  plane : Plane
  member : In plane ps
  are : v ≡ heights_of plane u

plane_of : (u : Tri) (ps : List Plane) (v : Heights) → In v (map (λ p. heights_of p u) ps) → HasPlane u ps v
plane_of u [] v m = absurd m
plane_of u (p ∷ ps) v (inl e) = record { plane = p; member = inl refl; are = e }
plane_of u (p ∷ ps) v (inr m) = let r = plane_of u ps v m in record { plane = r.plane; member = inr r.member; are = r.are }

-- if two planes of t's face part them, two triangles conform
parted_triangles_conform : (t u : Tri) → is_parted t u ≡ true → Conform t u
parted_triangles_conform t u e =
    let s = common_corners t u in let vs = heights_over t u in
    let f = any_out (λ v. list_any (λ w. are_beyond v w s) vs) vs e in
    let k = any_out (λ w. are_beyond f.item w s) vs f.passes in
    let g = plane_of u (planes_of t) f.item f.member in let h = plane_of u (planes_of t) k.item k.member in
    let a = g.are in let b = h.are in
    parted_by t u g.plane h.plane (planes_are_low t g.plane g.member) (planes_are_low t h.plane h.member)
    (sym (λ i. are_beyond (a i) (b i) s) ∙ k.passes)

-- triangles of which the test says that they don't touch conform
pub untouched_triangles_conform : (t u : Tri) → may_touch t u ≡ false → Conform t u
untouched_triangles_conform t u e = by (is_flat t) (is_flat u) (is_parted t u) (is_parted u t) refl refl refl refl e
  where
    by : (a b c d : Bool) → is_flat t ≡ a → is_flat u ≡ b → is_parted t u ≡ c → is_parted u t ≡ d →
        not a && (not b && (not c && not d)) ≡ false → Conform t u
    by true b c d ea eb ec ed f = record { common = λ h. absurd (clash ea h) }
    by false true c d ea eb ec ed f = record { common = λ g h. absurd (clash eb h) }
    by false false true d ea eb ec ed f = parted_triangles_conform t u ec
    by false false false true ea eb ec ed f = conform_turned u t (parted_triangles_conform u t ed)
    by false false false false ea eb ec ed f = absurd (clash refl f)
