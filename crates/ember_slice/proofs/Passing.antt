-- A ray at the level crosses a face as often as it crosses the face's segment.
use Rattle.std.proofs.Common.{◌≡◌, ◌≢◌, ◌⊎◌, ⊎_elim, inl, inr, refl, sym, ap, ◌∙◌, arith, ℤ, pos, negsuc, ◌+ℤ◌, ◌-ℤ◌}
use Rattle.std.proofs.Common.{◌*ℤ◌, neg_ℤ, ◌<ℤ◌, ◌≤ℤ◌, Bool, true, false, cond, ◌&&◌, List, [], ◌∷◌}
use Rattle.ember_algebra.specs.Sign.{sign, sgn, is_neg, is_pos, is_negative, is_positive}
use Rattle.ember_algebra.specs.Sums.{total}
use Rattle.ember_algebra.specs.Relations.{Each, none, more}
use Rattle.ember_algebra.proofs.Laws.{linear, from_one}
use Rattle.ember_algebra.proofs.Ring.{num, neg, ◌⊕◌, ◌⊖◌, ◌⊗◌, ◌≈◌, solve, cancels}
use Rattle.ember_algebra.proofs.Vectors.{scalar, tuple, identity, valueE}
use Rattle.ember_algebra.proofs.Order.{by_sign, sign_pos, sign_neg, cancel_eq}
use Rattle.ember_algebra.proofs.Sums.{total-append}
use Rattle.ember_algebra.proofs.Numbers.{neg_positive, twice_positive}
use Rattle.ember_model.specs.declared.plane.Plane.{Plane}
use Rattle.ember_model.specs.declared.point.Spot.{Spot}
use Rattle.ember_model.specs.declared.point.Axis.{Axis}
use Rattle.ember_model.specs.declared.point.Axis.TheVariants.{X, Y}
use Rattle.ember_model.specs.declared.face.Face.{Face}
use Rattle.ember_model.specs.Planes.{value_at, along}
use Rattle.ember_model.specs.Faces.{size, hit, crossing}
use Rattle.ember_model.specs.Meshes.{wind}
use Rattle.ember_model.proofs.Tuples.{plane_tuple, spot_tuple}
use Rattle.ember_model.proofs.SignTests.{sgn_scaled, negative_out, positive_out, clash, size_positive, positive_nonzero, negative_nonzero}
use Rattle.ember_model.proofs.SignTests.{is_negative-neg, is_positive-neg}
use Rattle.ember_model.proofs.PlaneValues.{hit_flat}
use Rattle.ember_model.proofs.Hits.{value_ray, ray_weight, crossing_off, crossing_across}
use Rattle.ember_slice.specs.Lines.{level, IsFlat, along_line, ahead, is_before}
use Rattle.ember_slice.specs.Intervals.{is_behind}
use Rattle.ember_slice.specs.Segments.{IsSegment, GivesNone, Directed, GivesSegments}
use Rattle.ember_slice.specs.Crossings.{gap, is_lower, orientation, passing, ray_x, ray_y}
use Rattle.ember_slice.proofs.Along.{OnLine, on_line_out, on_line_in, square, square_above, nothing, levelE, alongE}
use Rattle.ember_slice.proofs.Orders.{weak_first, tilted}
use Rattle.ember_slice.proofs.Bounds.{cut_on_line}

-- ---- coordinates along the line
module _ (n : Plane) (at : ℤ) (u v : Spot) (hu : OnLine n at u) (hv : OnLine n at v) where
  pub rises : (pos 2 *ℤ n.a) *ℤ ahead n u v ≡ (pos 2 *ℤ square n) *ℤ gap (λ s. s.y) u v
  rises =
      let e : (pos 2 *ℤ n.a) *ℤ ahead n u v -ℤ (pos 2 *ℤ square n) *ℤ gap (λ s. s.y) u v ≡ neg_ℤ (pos 2 *ℤ n.b *ℤ v.w)
      *ℤ value_at n u +ℤ (pos 2 *ℤ n.b *ℤ u.w) *ℤ value_at n v +ℤ (n.b *ℤ n.c *ℤ v.w) *ℤ value_at (level at) u +ℤ
      neg_ℤ (n.b *ℤ n.c *ℤ u.w) *ℤ value_at (level at) v =
      identity (tuple ∷ scalar ∷ tuple ∷ tuple ∷ []) (λ n at u v.
      let q = levelE (num (pos 2) ⊗ at ⊕ num (pos 1)) in let s = n.x ⊗ n.x ⊕ n.y ⊗ n.y in
      (num (pos 2) ⊗ n.x) ⊗ (v.w ⊗ alongE n u ⊖ u.w ⊗ alongE n v) ⊖ (num (pos 2) ⊗ s) ⊗ (v.w ⊗ u.y ⊖ u.w ⊗ v.y) ≈ neg
      (num (pos 2) ⊗ n.y ⊗ v.w) ⊗ valueE n u ⊕ (num (pos 2) ⊗ n.y ⊗ u.w) ⊗ valueE n v ⊕ (n.y ⊗ n.z ⊗ v.w) ⊗ valueE q u
      ⊕ neg (n.y ⊗ n.z ⊗ u.w) ⊗ valueE q v) cancels (plane_tuple n) at (spot_tuple u) (spot_tuple v) in
      let z = e ∙ nothing _ _ _ _ _ _ _ _ hu.support hv.support hu.level hv.level in
      omega (arith, linear, z)

  pub falls : (pos 2 *ℤ n.b) *ℤ ahead n u v ≡ (pos 2 *ℤ square n) *ℤ gap (λ s. neg_ℤ s.x) u v
  falls =
      let e : (pos 2 *ℤ n.b) *ℤ ahead n u v -ℤ (pos 2 *ℤ square n) *ℤ gap (λ s. neg_ℤ s.x) u v ≡ (pos 2 *ℤ n.a *ℤ v.w)
      *ℤ value_at n u +ℤ neg_ℤ (pos 2 *ℤ n.a *ℤ u.w) *ℤ value_at n v +ℤ neg_ℤ (n.a *ℤ n.c *ℤ v.w) *ℤ value_at
      (level at) u +ℤ (n.a *ℤ n.c *ℤ u.w) *ℤ value_at (level at) v =
      identity (tuple ∷ scalar ∷ tuple ∷ tuple ∷ []) (λ n at u v.
      let q = levelE (num (pos 2) ⊗ at ⊕ num (pos 1)) in let s = n.x ⊗ n.x ⊕ n.y ⊗ n.y in
      (num (pos 2) ⊗ n.y) ⊗ (v.w ⊗ alongE n u ⊖ u.w ⊗ alongE n v) ⊖ (num (pos 2) ⊗ s) ⊗ (v.w ⊗ neg u.x ⊖ u.w ⊗ neg v.x)
      ≈ (num (pos 2) ⊗ n.x ⊗ v.w) ⊗ valueE n u ⊕ neg (num (pos 2) ⊗ n.x ⊗ u.w) ⊗ valueE n v ⊕ neg (n.x ⊗ n.z ⊗ v.w) ⊗
      valueE q u ⊕ (n.x ⊗ n.z ⊗ u.w) ⊗ valueE q v) cancels (plane_tuple n) at (spot_tuple u) (spot_tuple v) in
      let z = e ∙ nothing _ _ _ _ _ _ _ _ hu.support hv.support hu.level hv.level in
      omega (arith, linear, z)

  -- the way from u to v turns round p as p lies on the front or the back of n
  turns : (p : Spot) → value_at (level at) p ≡ pos 0 → (pos 2 *ℤ square n) *ℤ orientation u v p ≡ (pos 2 *ℤ value_at n p) *ℤ ahead n u v
  turns p hp =
      let i = along_line n v *ℤ p.w -ℤ v.w *ℤ along_line n p in
      let j = along_line n u *ℤ p.w -ℤ u.w *ℤ along_line n p in
      let e : (pos 2 *ℤ square n) *ℤ orientation u v p -ℤ (pos 2 *ℤ value_at n p) *ℤ ahead n u v
      ≡ ((pos 2 *ℤ i) *ℤ value_at n u +ℤ neg_ℤ (pos 2 *ℤ j) *ℤ value_at n v +ℤ neg_ℤ (n.c *ℤ i) *ℤ value_at (level at)
      u +ℤ (n.c *ℤ j) *ℤ value_at (level at) v) +ℤ neg_ℤ (n.c *ℤ ahead n u v) *ℤ value_at (level at) p =
      identity (tuple ∷ scalar ∷ tuple ∷ tuple ∷ tuple ∷ []) (λ n at u v p.
      let q = levelE (num (pos 2) ⊗ at ⊕ num (pos 1)) in let s = n.x ⊗ n.x ⊕ n.y ⊗ n.y in
      let i = alongE n v ⊗ p.w ⊖ v.w ⊗ alongE n p in let j = alongE n u ⊗ p.w ⊖ u.w ⊗ alongE n p in
      let a = v.w ⊗ alongE n u ⊖ u.w ⊗ alongE n v in
      (num (pos 2) ⊗ s) ⊗ (u.x ⊗ (v.y ⊗ p.w ⊖ v.w ⊗ p.y) ⊖ u.y ⊗ (v.x ⊗ p.w ⊖ v.w ⊗ p.x) ⊕ u.w ⊗
      (v.x ⊗ p.y ⊖ v.y ⊗ p.x)) ⊖ (num (pos 2) ⊗ valueE n p) ⊗ a ≈
      ((num (pos 2) ⊗ i) ⊗ valueE n u ⊕ neg (num (pos 2) ⊗ j) ⊗ valueE n v ⊕ neg (n.z ⊗ i) ⊗ valueE q u ⊕ (n.z ⊗ j) ⊗
      valueE q v) ⊕ neg (n.z ⊗ a) ⊗ valueE q p) cancels (plane_tuple n) at (spot_tuple u) (spot_tuple v)
      (spot_tuple p) in
      let z = e ∙ (λ k. nothing (pos 2 *ℤ i) (neg_ℤ (pos 2 *ℤ j)) (neg_ℤ (n.c *ℤ i)) (n.c *ℤ j) _ _ _ _ hu.support
      hv.support hu.level hv.level k +ℤ neg_ℤ (n.c *ℤ ahead n u v) *ℤ hp k) in
      finish _ _ (neg_ℤ (n.c *ℤ ahead n u v)) z
    where
      finish : (a b c : ℤ) → a -ℤ b ≡ pos 0 +ℤ c *ℤ pos 0 → a ≡ b
      finish a b c h = omega (arith, linear, h)

-- ---- signs
-- k * x = m * y, if k and m are positive
same_sign : (k m x y : ℤ) → pos 0 <ℤ k → pos 0 <ℤ m → k *ℤ x ≡ m *ℤ y → sgn x ≡ sgn y
same_sign k m x y p q e = sym (sgn_scaled x p) ∙ ap sgn e ∙ sgn_scaled y q

-- ---- what is chosen
pick_first : (t b c d : Bool) → c ≡ false → cond (t && b) (pos 1) (pos 0) ≡ cond (b && t) (pos 1) (cond (c && d) (negsuc 0) (pos 0))
pick_first true true false d e = refl
pick_first true false false d e = refl
pick_first false true false d e = refl
pick_first false false false d e = refl
pick_first t b true d e = absurd (clash refl e)

pick_second : (t b a e : Bool) → a ≡ false → cond (t && b) (negsuc 0) (pos 0) ≡ cond (a && e) (pos 1) (cond (b && t) (negsuc 0) (pos 0))
pick_second true true false e h = refl
pick_second true false false e h = refl
pick_second false true false e h = refl
pick_second false false false e h = refl
pick_second t b true e h = absurd (clash refl h)

pick_none : (a b c d : Bool) → a ≡ false → b ≡ false → pos 0 ≡ cond (a && c) (pos 1) (cond (b && d) (negsuc 0) (pos 0))
pick_none false false c d p q = refl
pick_none true b c d p q = absurd (clash refl p)
pick_none false true c d p q = absurd (clash refl q)

no_pick : (t b : Bool) (z : ℤ) → b ≡ false → cond (t && b) z (pos 0) ≡ pos 0
no_pick true false z e = refl
no_pick false false z e = refl
no_pick t true z e = absurd (clash refl e)

both_false : (a b : Bool) → (a ≡ true → b ≡ true → ⊥) → a && b ≡ false
both_false true true f = absurd (f refl refl)
both_false true false f = refl
both_false false b f = refl

-- ---- a coordinate that grows along the line as k says
module _ (n : Plane) (at : ℤ) (c : Spot → ℤ) (k : ℤ) (t : IsFlat n → ⊥) (grows : (u v : Spot) → OnLine n at u →
    OnLine n at v → (pos 2 *ℤ k) *ℤ ahead n u v ≡ (pos 2 *ℤ square n) *ℤ gap c u v) where
  twice_square : pos 0 <ℤ (pos 2 *ℤ square n)
  twice_square = twice_positive (square_above n t)

  gap_turned : (u v : Spot) → gap c v u ≡ neg_ℤ (gap c u v)
  gap_turned u v = solve 4 (λ a b x y. a ⊗ y ⊖ b ⊗ x ≈ neg (b ⊗ x ⊖ a ⊗ y)) cancels u.w v.w (c u) (c v)

  up : pos 0 <ℤ k → (u v : Spot) → OnLine n at u → OnLine n at v → is_before n u v ≡ is_lower c u v
  up h u v hu hv =
      ap is_neg (same_sign (pos 2 *ℤ k) (pos 2 *ℤ square n) (ahead n u v) (gap c u v) (twice_positive h) twice_square (grows u v hu hv))

  down : k <ℤ pos 0 → (u v : Spot) → OnLine n at u → OnLine n at v → is_before n u v ≡ is_lower c v u
  down h u v hu hv =
      ap is_neg (same_sign (neg_ℤ (pos 2 *ℤ k)) (pos 2 *ℤ square n) (ahead n u v) (gap c v u) (neg_positive (below h))
      twice_square (turned_product (pos 2 *ℤ k) (ahead n u v) (pos 2 *ℤ square n) (gap c u v) (grows u v hu hv)
      ∙ ap (λ a. (pos 2 *ℤ square n) *ℤ a) (sym (gap_turned u v))))
    where
      below : {a : ℤ} → a <ℤ pos 0 → (pos 2 *ℤ a) <ℤ pos 0
      below h = omega (arith, linear, h)

      turned_product : (a b s d : ℤ) → a *ℤ b ≡ s *ℤ d → neg_ℤ a *ℤ b ≡ s *ℤ neg_ℤ d
      turned_product a b s d e =
          from_one (negsuc 0) e (solve 4 (λ a b s d. neg a ⊗ b ⊖ s ⊗ neg d ≈ num (negsuc 0) ⊗ (a ⊗ b ⊖ s ⊗ d)) cancels a b s d)

  lower_trans : (u v w : Spot) → pos 0 <ℤ u.w → pos 0 <ℤ v.w → pos 0 <ℤ w.w → is_lower c u v ≡ true → is_lower c v w ≡ true → gap c u w <ℤ pos 0
  lower_trans u v w pu pv pw h l =
      let m = negative_out (gap c u v) h in
      weak_first (c u) (c v) (c w) u.w v.w w.w pu pv pw (omega (arith, linear, m)) (negative_out (gap c v w) l)

  -- p isn't between two points of which the second is no higher
  not_between : (u v p : Spot) → pos 0 <ℤ u.w → pos 0 <ℤ v.w → pos 0 <ℤ p.w → pos 0 ≤ℤ gap c u v → is_lower c u p && is_lower c p v ≡ false
  not_between u v p pu pv pp h =
      both_false (is_lower c u p) (is_lower c p v) (λ a b. omega (arith, linear, h, lower_trans u p v pu pp pv a b))

  -- ---- the turn
  module _ (u v p : Spot) (hu : OnLine n at u) (hv : OnLine n at v) (hp : value_at (level at) p ≡ pos 0) (before : ahead n u v <ℤ pos 0) where
    turn_sign : sgn (orientation u v p) ≡ sgn (neg_ℤ (value_at n p))
    turn_sign =
        same_sign (pos 2 *ℤ square n) (neg_ℤ (pos 2 *ℤ ahead n u v)) (orientation u v p) (neg_ℤ (value_at n p))
        twice_square (neg_positive (below before)) (turns n at u v hu hv p hp ∙ moved (value_at n p) (ahead n u v))
      where
        below : {a : ℤ} → a <ℤ pos 0 → (pos 2 *ℤ a) <ℤ pos 0
        below h = omega (arith, linear, h)

        moved : (s a : ℤ) → (pos 2 *ℤ s) *ℤ a ≡ neg_ℤ (pos 2 *ℤ a) *ℤ neg_ℤ s
        moved = solve 2 (λ s a. (num (pos 2) ⊗ s) ⊗ a ≈ neg (num (pos 2) ⊗ a) ⊗ neg s) cancels

    turn_left : is_positive (orientation u v p) ≡ is_negative (value_at n p)
    turn_left = ap is_pos turn_sign ∙ is_positive-neg (value_at n p)

    turn_right : is_negative (orientation u v p) ≡ is_positive (value_at n p)
    turn_right = ap is_neg turn_sign ∙ is_negative-neg (value_at n p)

-- ---- where the ray meets the face's plane
hit_on_line : (n : Plane) (at : ℤ) (a : Axis) (p : Spot) → along n a ≢ pos 0 → along (level at) a ≡ pos 0 →
    pos 0 <ℤ p.w → value_at (level at) p ≡ pos 0 → OnLine n at (hit n a p)
hit_on_line n at a p nz flat w hp =
    let m = size (along n a) in let s = neg_ℤ (sign (along n a) *ℤ value_at n p) in
    record {
      weight = positive_out (hit n a p).w (ray_weight a p m s (size_positive (along n a) nz) w);
      support = hit_flat n a p;
      level = value_ray (level at) a p m s ∙ (λ i. m *ℤ hp i +ℤ s *ℤ flat i) ∙ zeros m s;
    }
  where
    zeros : (m s : ℤ) → m *ℤ pos 0 +ℤ s *ℤ pos 0 ≡ pos 0
    zeros m s = omega (arith, linear)

-- ---- one face
-- a ray along an axis of the level, and a coordinate that doesn't change along it
record IsAcross (a : Axis) (c : Spot → ℤ) (p : Spot) : Type 0 where
  flat : (at : ℤ) → along (level at) a ≡ pos 0
  weight : (n : Plane) → (hit n a p).w ≡ size (along n a) *ℤ p.w
  stays : (n : Plane) → c (hit n a p) ≡ size (along n a) *ℤ c p
  grows : (n : Plane) (at : ℤ) (u v : Spot) → OnLine n at u → OnLine n at v → (pos 2 *ℤ along n a) *ℤ ahead n u v ≡ (pos 2 *ℤ square n) *ℤ gap c u v

module _ (a : Axis) (c : Spot → ℤ) (p : Spot) (across : IsAcross a c p) (f : Face) (at : ℤ) (w : pos 0 <ℤ p.w) (hp : value_at (level at) p ≡ pos 0) where
  abbrev n : Plane
  n = f.support

  abbrev k : ℤ
  k = along n a

  abbrev h : Spot
  h = hit n a p

  no_entry : k ≡ pos 0 → crossing f a p ≡ pos 0
  no_entry e =
      crossing_off f a p (ap is_negative (ap (λ z. value_at n p *ℤ z) e ∙ times_zero (value_at n p)))
    where
      times_zero : (s : ℤ) → s *ℤ pos 0 ≡ pos 0
      times_zero s = omega (arith, linear)

  -- the face's crossing, where the hit point's test is known
  met : (b : Bool) → k ≢ pos 0 → is_behind f.edges h ≡ b → crossing f a p ≡ cond (is_negative (value_at n p *ℤ k) && b) (sign k) (pos 0)
  met b nz e =
      crossing_across f a p w nz ∙ ap (λ t. cond (is_negative (value_at n p *ℤ k) && t) (sign k) (pos 0)) e

  flat_entry : IsFlat n → (a ≡ X) ⊎ (a ≡ Y) → k ≡ pos 0
  flat_entry t o = ⊎_elim (λ e. ap (λ b. along n b) e ∙ t.0) (λ e. ap (λ b. along n b) e ∙ t.1) o

  none_crossed : (a ≡ X) ⊎ (a ≡ Y) → GivesNone f at → crossing f a p ≡ pos 0
  none_crossed o g =
      by_sign k (λ l. off (positive_nonzero l) g) no_entry (λ l. off (negative_nonzero l) g)
    where
      off : k ≢ pos 0 → GivesNone f at → crossing f a p ≡ pos 0
      off nz g =
          ⊎_elim
          (λ t. no_entry (flat_entry t o))
          (λ e. let on = on_line_in n at h (hit_on_line n at a p nz (across.flat at) w hp) in
          met false nz (sym (cut_on_line f at h on) ∙ e h) ∙ no_pick (is_negative (value_at n p *ℤ k)) false (sign k) refl)
          g

  scaled_low : (u : Spot) → gap c u h ≡ size k *ℤ gap c u p
  scaled_low u =
      (λ i. across.weight n i *ℤ c u -ℤ u.w *ℤ across.stays n i)
      ∙ solve 5 (λ m x y z t. (m ⊗ x) ⊗ y ⊖ z ⊗ (m ⊗ t) ≈ m ⊗ (x ⊗ y ⊖ z ⊗ t)) cancels (size k) p.w (c u) u.w (c p)

  scaled_high : (u : Spot) → gap c h u ≡ size k *ℤ gap c p u
  scaled_high u =
      (λ i. u.w *ℤ across.stays n i -ℤ across.weight n i *ℤ c u)
      ∙ solve 5 (λ m x y z t. z ⊗ (m ⊗ t) ⊖ (m ⊗ x) ⊗ y ≈ m ⊗ (z ⊗ t ⊖ x ⊗ y)) cancels (size k) p.w (c u) u.w (c p)

  module _ (u v : Spot) (s : IsSegment f at u v) where
    hu : OnLine n at u
    hu = on_line_out n at u s.first

    hv : OnLine n at v
    hv = on_line_out n at v s.last

    leads : ahead n u v <ℤ pos 0
    leads = negative_out (ahead n u v) s.leads

    steep : IsFlat n → ⊥
    steep = tilted n u v s.leads

    low : k ≢ pos 0 → (x : Spot) → is_lower c x h ≡ is_lower c x p
    low nz x = ap is_negative (scaled_low x) ∙ ap is_neg (sgn_scaled (gap c x p) (size_positive k nz))

    high : k ≢ pos 0 → (x : Spot) → is_lower c h x ≡ is_lower c p x
    high nz x = ap is_negative (scaled_high x) ∙ ap is_neg (sgn_scaled (gap c p x) (size_positive k nz))

    inside_is : k ≢ pos 0 → is_behind f.edges h ≡ is_before n u h && is_before n h v
    inside_is nz =
        let on = on_line_in n at h (hit_on_line n at a p nz (across.flat at) w hp) in
        sym (cut_on_line f at h on) ∙ s.between h on

    abbrev s_p : ℤ
    s_p = value_at n p

    segment_crossed : crossing f a p ≡ passing c p (record { first = u; last = v })
    segment_crossed =
        by_sign k
        (λ l. let nz = positive_nonzero l in let hh = hit_on_line n at a p nz (across.flat at) w hp in
        let inner : is_behind f.edges h ≡ is_lower c u p && is_lower c p v =
        inside_is nz ∙ (λ i. (up n at c k steep (across.grows n at) l u h hu hh ∙ low nz u) i
        && (up n at c k steep (across.grows n at) l h v hh hv ∙ high nz v) i) in
        let order = negative_out (gap c u v) (sym (up n at c k steep (across.grows n at) l u v hu hv) ∙ s.leads) in
        let away = not_between n at c k steep (across.grows n at) v u p hv.weight hu.weight w
        (omega (arith, linear, order, gap_turned n at c k steep (across.grows n at) u v)) in
        met (is_lower c u p && is_lower c p v) nz inner
        ∙ (λ i. cond ((facing_up l ∙ sym (turn_left n at c k steep (across.grows n at) u v p hu hv hp leads)) i
        && (is_lower c u p && is_lower c p v)) (sign_pos l i) (pos 0))
        ∙ pick_first (is_positive (orientation u v p)) (is_lower c u p && is_lower c p v)
        (is_lower c v p && is_lower c p u) (is_negative (orientation u v p)) away)
        (λ e. no_entry e ∙ pick_none (is_lower c u p && is_lower c p v) (is_lower c v p && is_lower c p u)
        (is_positive (orientation u v p)) (is_negative (orientation u v p))
        (not_between n at c k steep (across.grows n at) u v p hu.weight hv.weight w (omega (arith, linear, level_gap e)))
        (not_between n at c k steep (across.grows n at) v u p hv.weight hu.weight w
        (omega (arith, linear, level_gap e, gap_turned n at c k steep (across.grows n at) u v))))
        (λ l. let nz = negative_nonzero l in let hh = hit_on_line n at a p nz (across.flat at) w hp in
        let inner : is_behind f.edges h ≡ is_lower c p u && is_lower c v p =
        inside_is nz ∙ (λ i. (down n at c k steep (across.grows n at) l u h hu hh ∙ high nz u) i
        && (down n at c k steep (across.grows n at) l h v hh hv ∙ low nz v) i) in
        let order = negative_out (gap c v u) (sym (down n at c k steep (across.grows n at) l u v hu hv) ∙ s.leads) in
        let away = not_between n at c k steep (across.grows n at) u v p hu.weight hv.weight w
        (omega (arith, linear, order, gap_turned n at c k steep (across.grows n at) u v)) in
        met (is_lower c v p && is_lower c p u) nz (inner ∙ swap (is_lower c p u) (is_lower c v p))
        ∙ (λ i. cond ((facing_down l ∙ sym (turn_right n at c k steep (across.grows n at) u v p hu hv hp leads)) i
        && (is_lower c v p && is_lower c p u)) (sign_neg l i) (pos 0))
        ∙ pick_second (is_negative (orientation u v p)) (is_lower c v p && is_lower c p u)
        (is_lower c u p && is_lower c p v) (is_positive (orientation u v p)) away)
      where
        swap : (x y : Bool) → x && y ≡ y && x
        swap true true = refl
        swap true false = refl
        swap false true = refl
        swap false false = refl

        facing_up : pos 0 <ℤ k → is_negative (s_p *ℤ k) ≡ is_negative s_p
        facing_up l = ap is_negative (commuted s_p k) ∙ ap is_neg (sgn_scaled s_p l)
          where
            commuted : (x y : ℤ) → x *ℤ y ≡ y *ℤ x
            commuted = solve 2 (λ x y. x ⊗ y ≈ y ⊗ x) cancels

        facing_down : k <ℤ pos 0 → is_negative (s_p *ℤ k) ≡ is_positive s_p
        facing_down l = ap is_negative (commuted s_p k) ∙ ap is_neg (sgn_scaled (neg_ℤ s_p) (neg_positive l)) ∙ is_negative-neg s_p
          where
            commuted : (x y : ℤ) → x *ℤ y ≡ neg_ℤ y *ℤ neg_ℤ x
            commuted = solve 2 (λ x y. x ⊗ y ≈ neg y ⊗ neg x) cancels

        level_gap : k ≡ pos 0 → gap c u v ≡ pos 0
        level_gap e =
            cancel_eq {c = pos 2 *ℤ square n} (λ z. omega (arith, linear, z, twice_positive (square_above n steep)))
            (sym (across.grows n at u v hu hv) ∙ ap (λ z. (pos 2 *ℤ z) *ℤ ahead n u v) e
            ∙ zeros (ahead n u v) (pos 2 *ℤ square n))
          where
            zeros : (x y : ℤ) → (pos 2 *ℤ pos 0) *ℤ x ≡ y *ℤ pos 0
            zeros x y = omega (arith, linear)

-- ---- all faces
abbrev IsLevelAxis : Axis → Type 0
IsLevelAxis a = (a ≡ X) ⊎ (a ≡ Y)

all_crossed : (a : Axis) (c : Spot → ℤ) (p : Spot) → IsAcross a c p → IsLevelAxis a → (at : ℤ) → pos 0 <ℤ p.w →
    value_at (level at) p ≡ pos 0 → {fs : List Face} {ss : List Directed} → Each (GivesSegments at) fs ss →
    total (passing c p) ss ≡ wind a fs p
all_crossed a c p h o at w hp none = refl
all_crossed a c p h o at w hp (more {x = f} {xs = fs} {ys = ys} {zs = zs} r d) =
    total-append (passing c p) ys zs ∙ (λ i. one ys r i +ℤ all_crossed a c p h o at w hp d i)
  where
    one : (ys : List Directed) → GivesSegments at f ys → total (passing c p) ys ≡ crossing f a p
    one [] g = sym (none_crossed a c p h f at w hp o g)
    one (s ∷ []) g = plus_zero (passing c p s) ∙ sym (segment_crossed a c p h f at w hp s.first s.last g)
      where
        plus_zero : (x : ℤ) → x +ℤ pos 0 ≡ x
        plus_zero x = omega (arith, linear)
    one (s ∷ t ∷ ss) g = absurd g

across_x : (p : Spot) → IsAcross X (λ v. v.y) p
across_x p = record { flat = λ at. refl; weight = λ n. refl; stays = λ n. refl; grows = λ n at u v hu hv. rises n at u v hu hv }

across_y : (p : Spot) → IsAcross Y (λ v. neg_ℤ v.x) p
across_y p =
    record { flat = λ at. refl; weight = λ n. refl; stays = λ n. turned_product (size n.b) p.x; grows = λ n at u v hu hv. falls n at u v hu hv }
  where
    turned_product : (m x : ℤ) → neg_ℤ (m *ℤ x) ≡ m *ℤ neg_ℤ x
    turned_product = solve 2 (λ m x. neg (m ⊗ x) ≈ m ⊗ neg x) cancels

-- the segments cross a ray along x as the faces do
pub crossed_along_x : (p : Spot) (at : ℤ) → pos 0 <ℤ p.w → value_at (level at) p ≡ pos 0 →
    {fs : List Face} {ss : List Directed} → Each (GivesSegments at) fs ss → total (ray_x p) ss ≡ wind X fs p
crossed_along_x p at w hp d = all_crossed X (λ v. v.y) p (across_x p) (inl refl) at w hp d

-- the segments cross a ray along y as the faces do
pub crossed_along_y : (p : Spot) (at : ℤ) → pos 0 <ℤ p.w → value_at (level at) p ≡ pos 0 →
    {fs : List Face} {ss : List Directed} → Each (GivesSegments at) fs ss → total (ray_y p) ss ≡ wind Y fs p
crossed_along_y p at w hp d = all_crossed Y (λ v. neg_ℤ v.x) p (across_y p) (inr refl) at w hp d
