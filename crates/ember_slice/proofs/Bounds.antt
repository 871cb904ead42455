-- The segment between two ends, and faces without one.
use Rattle.std.proofs.Common.{◌≡◌, inl, inr, refl, sym, ap, ◌∙◌, arith, ℤ, pos, ◌+ℤ◌, ◌-ℤ◌, ◌*ℤ◌, neg_ℤ, ◌<ℤ◌, ◌≤ℤ◌}
use Rattle.std.proofs.Common.{Bool, true, false, ◌&&◌, Option, Some, None, Ok}
use Rattle.std.specs.Prelude.{MatchOption}
use Rattle.std.proofs.lemmas.Bool.{and_parts}
use Rattle.ember_algebra.specs.Sign.{sgn, flip, is_neg, is_negative, is_zero, is_positive}
use Rattle.ember_algebra.proofs.Signs.{sgn-neg}
use Rattle.ember_algebra.proofs.Laws.{linear, from_one, from_two, from_three}
use Rattle.ember_algebra.proofs.Ring.{num, neg, ◌⊕◌, ◌⊖◌, ◌⊗◌, ◌≈◌, solve, cancels}
use Rattle.ember_algebra.proofs.Order.{by_sign, pos_mul, mul_pos_neg}
use Rattle.ember_model.specs.declared.plane.Plane.{Plane}
use Rattle.ember_model.specs.declared.point.Spot.{Spot}
use Rattle.ember_model.specs.declared.face.Face.{Face}
use Rattle.ember_model.specs.Planes.{value_at}
use Rattle.ember_model.specs.Edges.{SamePoint}
use Rattle.ember_model.proofs.SignTests.{sgn_scaled, negative_in}
use Rattle.ember_point.specs.Points.{spot_of}
use Rattle.ember_slice.specs.declared.ends.Segment.{Segment}
use Rattle.ember_slice.specs.declared.interval.End.{End}
use Rattle.ember_slice.specs.Lines.{level, IsFlat, is_on_line, along_line, ahead, is_before}
use Rattle.ember_slice.specs.Intervals.{IsInterval, is_behind}
use Rattle.ember_slice.specs.Segments.{is_cut, IsSegment, IsAnswer, Joins, GivesNone, IsUnboundedAhead, IsUnboundedBack, IsEndless}
use Rattle.ember_slice.proofs.Along.{OnLine, on_line_out, on_line_in, ahead_turned, square_above}
use Rattle.ember_slice.proofs.Orders.{not_after_then, then_not_after, before_trans}

-- ---- inside points at the level
four : (a b c d : Bool) → (a && (b && c)) && d ≡ (a && (b && d)) && c
four false b c d = refl
four true false c d = refl
four true true true true = refl
four true true true false = refl
four true true false true = refl
four true true false false = refl

cut_split : (f : Face) (at : ℤ) (v : Spot) → is_cut f at v ≡ is_on_line f.support at v && is_behind f.edges v
cut_split f at v =
    four (is_positive v.w) (is_zero (value_at f.support v)) (is_behind f.edges v) (is_zero (value_at (level at) v))

-- a point of the line is cut exactly if it is behind the edges
pub cut_on_line : (f : Face) (at : ℤ) (v : Spot) → is_on_line f.support at v ≡ true → is_cut f at v ≡ is_behind f.edges v
cut_on_line f at v on = cut_split f at v ∙ ap (λ b. b && is_behind f.edges v) on

-- what is cut is on the line
pub cut_line : (f : Face) (at : ℤ) (v : Spot) → is_cut f at v ≡ true → is_on_line f.support at v ≡ true
cut_line f at v e = (and_parts (is_on_line f.support at v) (is_behind f.edges v) (sym (cut_split f at v) ∙ e)).0

none_behind : (f : Face) (at : ℤ) → ((v : Spot) → is_on_line f.support at v ≡ true → is_behind f.edges v ≡ false) → GivesNone f at
none_behind f at h = inr (λ v. cut_split f at v ∙ by v (is_on_line f.support at v) refl)
  where
    by : (v : Spot) (b : Bool) → is_on_line f.support at v ≡ b → b && is_behind f.edges v ≡ false
    by v true e = h v e
    by v false e = refl

-- ---- the same place
module _ {u v : Spot} (s : SamePoint u v) (pu : pos 0 <ℤ u.w) (pv : pos 0 <ℤ v.w) where
  same_value : (p : Plane) → u.w *ℤ value_at p v ≡ v.w *ℤ value_at p u
  same_value p =
      from_three (neg_ℤ p.a) (neg_ℤ p.b) (neg_ℤ p.c) s.x s.y s.z
      (solve 12 (λ a b c d x y z w e f g h. w ⊗ (a ⊗ e ⊕ b ⊗ f ⊕ c ⊗ g ⊖ d ⊗ h) ⊖ h ⊗ (a ⊗ x ⊕ b ⊗ y ⊕ c ⊗ z ⊖ d ⊗ w)
      ≈ neg a ⊗ (h ⊗ x ⊖ w ⊗ e) ⊕ neg b ⊗ (h ⊗ y ⊖ w ⊗ f) ⊕ neg c ⊗ (h ⊗ z ⊖ w ⊗ g)) cancels p.a p.b p.c p.d u.x u.y
      u.z u.w v.x v.y v.z v.w)

  value_zero : (p : Plane) → value_at p u ≡ pos 0 → value_at p v ≡ pos 0
  value_zero p e =
      by_sign (value_at p v) (λ h. absurd (omega (arith, linear, pos_mul pu h, same_value p, zero))) (λ h. h)
      (λ h. absurd (omega (arith, linear, mul_pos_neg pu h, same_value p, zero)))
    where
      zero : v.w *ℤ value_at p u ≡ pos 0
      zero = ap (λ a. v.w *ℤ a) e ∙ times_zero v.w
        where
          times_zero : (a : ℤ) → a *ℤ pos 0 ≡ pos 0
          times_zero a = omega (arith, linear)

  same_on_line : (n : Plane) (at : ℤ) → is_on_line n at u ≡ true → is_on_line n at v ≡ true
  same_on_line n at on =
      let h = on_line_out n at u on in
      on_line_in n at v (record { weight = pv; support = value_zero n h.support; level = value_zero (level at) h.level })

  same_along : (n : Plane) → u.w *ℤ along_line n v ≡ v.w *ℤ along_line n u
  same_along n =
      from_two n.b (neg_ℤ n.a) s.x s.y (solve 8 (λ a b x y w e f h. w ⊗ (a ⊗ f ⊖ b ⊗ e) ⊖ h ⊗ (a ⊗ y ⊖ b ⊗ x) ≈ b ⊗
      (h ⊗ x ⊖ w ⊗ e) ⊕ neg a ⊗ (h ⊗ y ⊖ w ⊗ f)) cancels n.a n.b u.x u.y u.w v.x v.y v.w)

  ahead_moved : (n : Plane) (w : Spot) → u.w *ℤ ahead n v w ≡ v.w *ℤ ahead n u w
  ahead_moved n w =
      from_one w.w (same_along n) (solve 6 (λ p q r a b c. p ⊗ (r ⊗ b ⊖ q ⊗ c) ⊖ q ⊗ (r ⊗ a ⊖ p ⊗ c) ≈ r ⊗
      (p ⊗ b ⊖ q ⊗ a)) cancels u.w v.w w.w (along_line n u) (along_line n v) (along_line n w))

  same_sign : (n : Plane) (w : Spot) → sgn (ahead n u w) ≡ sgn (ahead n v w)
  same_sign n w =
      sym (sgn_scaled (ahead n u w) pv) ∙ sym (ap sgn (ahead_moved n w)) ∙ sgn_scaled (ahead n v w) pu

  same_before : (n : Plane) (w : Spot) → is_before n u w ≡ is_before n v w
  same_before n w = ap is_neg (same_sign n w)

  same_after : (n : Plane) (w : Spot) → is_before n w u ≡ is_before n w v
  same_after n w =
      ap is_negative (ahead_turned n u w) ∙ turned (ahead n u w) (ahead n v w) (same_sign n w) ∙ sym (ap is_negative (ahead_turned n v w))
    where
      turned : (a b : ℤ) → sgn a ≡ sgn b → is_negative (neg_ℤ a) ≡ is_negative (neg_ℤ b)
      turned a b e = ap is_neg (sgn-neg a ∙ ap flip e ∙ sym (sgn-neg b))

-- ---- two ends
module _ (f : Face) (at : ℤ) (a b : End) (h : IsInterval f.support at f.edges (record { first = Some a; last = Some b })) where
  sign_of_ends : sgn (value_at b.plane (spot_of a.point)) ≡ sgn (ahead f.support (spot_of a.point) (spot_of b.point))
  sign_of_ends = h.ends.last.signs (spot_of a.point) h.ends.first.on

  on_a : OnLine f.support at (spot_of a.point)
  on_a = on_line_out f.support at (spot_of a.point) h.ends.first.on

  on_b : OnLine f.support at (spot_of b.point)
  on_b = on_line_out f.support at (spot_of b.point) h.ends.last.on

  test_of_ends : is_negative (value_at b.plane (spot_of a.point)) ≡ is_before f.support (spot_of a.point) (spot_of b.point)
  test_of_ends = ap is_neg sign_of_ends

  no_segment : is_negative (value_at b.plane (spot_of a.point)) ≡ false → GivesNone f at
  no_segment k =
      none_behind f at (λ v on. h.holds v on ∙ by v on (is_before f.support (spot_of a.point) v) (is_before f.support v (spot_of b.point)) refl refl)
    where
      by : (v : Spot) → is_on_line f.support at v ≡ true → (s t : Bool) → is_before f.support (spot_of a.point) v ≡ s →
          is_before f.support v (spot_of b.point) ≡ t → s && t ≡ false
      by v on false t p q = refl
      by v on true false p q = refl
      by v on true true p q =
          sym (before_trans f.support (spot_of a.point) v (spot_of b.point) on_a.weight
          (on_line_out f.support at v on).weight on_b.weight p q) ∙ sym test_of_ends ∙ k

  segment_between : (s : Segment) → is_negative (value_at b.plane (spot_of a.point)) ≡ true →
      Joins (spot_of a.point) (spot_of b.point) s → IsSegment f at (spot_of s.first) (spot_of s.last)
  segment_between s k j =
      let n = f.support in
      let before : (w : Spot) → is_before n (spot_of a.point) w ≡ is_before n (spot_of s.first) w = same_before j.first on_a.weight s.first.valid.weight n in
      let after : (w : Spot) → is_before n w (spot_of b.point) ≡ is_before n w (spot_of s.last) = same_after j.last on_b.weight s.last.valid.weight n in
      record {
        first = same_on_line j.first on_a.weight s.first.valid.weight n at h.ends.first.on;
        last = same_on_line j.last on_b.weight s.last.valid.weight n at h.ends.last.on;
        leads = sym (after (spot_of s.first)) ∙ sym (before (spot_of b.point)) ∙ sym test_of_ends ∙ k;
        between = λ w on. cut_on_line f at w on ∙ h.holds w on ∙ (λ i. before w i && after w i);
        first_lowest = j.first_lowest;
        last_lowest = j.last_lowest;
      }

-- ---- one end or none
abbrev further : Plane → Spot → Spot
further n u = record u { x = u.x -ℤ n.b; y = u.y +ℤ n.a }

abbrev nearer : Plane → Spot → Spot
nearer n u = record u { x = u.x +ℤ n.b; y = u.y -ℤ n.a }

module _ (n : Plane) (at : ℤ) (u : Spot) (on : is_on_line n at u ≡ true) where
  further_on_line : is_on_line n at (further n u) ≡ true
  further_on_line =
      let h = on_line_out n at u on in
      on_line_in n at (further n u) (record { weight = h.weight; support = same_n ∙ h.support; level = same_level ∙ h.level })
    where
      same_n : value_at n (further n u) ≡ value_at n u
      same_n =
          solve 8 (λ a b c d x y z w. a ⊗ (x ⊖ b) ⊕ b ⊗ (y ⊕ a) ⊕ c ⊗ z ⊖ d ⊗ w ≈ a ⊗ x ⊕ b ⊗ y ⊕ c ⊗ z ⊖ d ⊗ w) cancels n.a n.b n.c n.d u.x u.y u.z u.w

      same_level : value_at (level at) (further n u) ≡ value_at (level at) u
      same_level =
          solve 7 (λ a b e x y z w. num (pos 0) ⊗ (x ⊖ b) ⊕ num (pos 0) ⊗ (y ⊕ a) ⊕ num (pos 2) ⊗ z ⊖
          (num (pos 2) ⊗ e ⊕ num (pos 1)) ⊗ w ≈ num (pos 0) ⊗ x ⊕ num (pos 0) ⊗ y ⊕ num (pos 2) ⊗ z ⊖
          (num (pos 2) ⊗ e ⊕ num (pos 1)) ⊗ w) cancels n.a n.b at u.x u.y u.z u.w

  nearer_on_line : is_on_line n at (nearer n u) ≡ true
  nearer_on_line =
      let h = on_line_out n at u on in
      on_line_in n at (nearer n u) (record { weight = h.weight; support = same_n ∙ h.support; level = same_level ∙ h.level })
    where
      same_n : value_at n (nearer n u) ≡ value_at n u
      same_n =
          solve 8 (λ a b c d x y z w. a ⊗ (x ⊕ b) ⊕ b ⊗ (y ⊖ a) ⊕ c ⊗ z ⊖ d ⊗ w ≈ a ⊗ x ⊕ b ⊗ y ⊕ c ⊗ z ⊖ d ⊗ w) cancels n.a n.b n.c n.d u.x u.y u.z u.w

      same_level : value_at (level at) (nearer n u) ≡ value_at (level at) u
      same_level =
          solve 7 (λ a b e x y z w. num (pos 0) ⊗ (x ⊕ b) ⊕ num (pos 0) ⊗ (y ⊖ a) ⊕ num (pos 2) ⊗ z ⊖
          (num (pos 2) ⊗ e ⊕ num (pos 1)) ⊗ w ≈ num (pos 0) ⊗ x ⊕ num (pos 0) ⊗ y ⊕ num (pos 2) ⊗ z ⊖
          (num (pos 2) ⊗ e ⊕ num (pos 1)) ⊗ w) cancels n.a n.b at u.x u.y u.z u.w

  module _ (t : IsFlat n → ⊥) where
    ahead_of_further : ahead n u (further n u) <ℤ pos 0
    ahead_of_further =
        omega (
          arith,
          linear,
          pos_mul (on_line_out n at u on).weight (square_above n t),
          solve 5 (λ a b x y w. w ⊗ (a ⊗ y ⊖ b ⊗ x) ⊖ w ⊗ (a ⊗ (y ⊕ a) ⊖ b ⊗ (x ⊖ b)) ≈ neg (w ⊗ (a ⊗ a ⊕ b ⊗ b)))
              cancels n.a n.b u.x u.y u.w,
        )

    nearer_ahead : ahead n (nearer n u) u <ℤ pos 0
    nearer_ahead =
        omega (
          arith,
          linear,
          pos_mul (on_line_out n at u on).weight (square_above n t),
          solve 5 (λ a b x y w. w ⊗ (a ⊗ (y ⊖ a) ⊖ b ⊗ (x ⊕ b)) ⊖ w ⊗ (a ⊗ y ⊖ b ⊗ x) ≈ neg (w ⊗ (a ⊗ a ⊕ b ⊗ b)))
              cancels n.a n.b u.x u.y u.w,
        )

module _ (f : Face) (at : ℤ) (t : IsFlat f.support → ⊥) where
  abbrev n : Plane
  n = f.support

  -- past the end a, too
  module _ (a : Spot) (on_a : is_on_line f.support at a ≡ true) (u : Spot) (on : is_on_line f.support at u ≡ true) where
    wa : pos 0 <ℤ a.w
    wa = (on_line_out n at a on_a).weight

    wu : pos 0 <ℤ u.w
    wu = (on_line_out n at u on).weight

    abbrev Beyond : Type 0
    Beyond = (p : Spot) × (is_on_line n at p ≡ true) × (is_before n a p ≡ true) × (is_before n u p ≡ true)

    beyond : Beyond
    beyond =
        by_sign (ahead n a u)
        (λ l. let k = ahead_of_further n at a on_a t in (
          further n a,
          further_on_line n at a on_a,
          negative_in k,
          negative_in (not_after_then n u a (further n a) wu wa wa (omega (arith, linear, l, ahead_turned n a u)) k),
        ))
        (λ l. past (omega (arith, linear, l)))
        (λ l. past (omega (arith, linear, l)))
      where
        past : ahead n a u ≤ℤ pos 0 → (p : Spot) × (is_on_line n at p ≡ true) × (is_before n a p ≡ true) × (is_before n u p ≡ true)
        past l =
            let k = ahead_of_further n at u on t in
            (further n u, further_on_line n at u on, negative_in (not_after_then n a u (further n u) wa wu wu l k), negative_in k)

    ahead_of : (p : Spot) × (is_on_line n at p ≡ true) × (is_before n p a ≡ true) × (is_before n p u ≡ true)
    ahead_of =
        by_sign (ahead n u a)
        (λ l. let k = nearer_ahead n at a on_a t in (
          nearer n a,
          nearer_on_line n at a on_a,
          negative_in k,
          negative_in (then_not_after n (nearer n a) a u wa wa wu k (omega (arith, linear, l, ahead_turned n u a))),
        ))
        (λ l. past (omega (arith, linear, l)))
        (λ l. past (omega (arith, linear, l)))
      where
        past : ahead n u a ≤ℤ pos 0 → (p : Spot) × (is_on_line n at p ≡ true) × (is_before n p a ≡ true) × (is_before n p u ≡ true)
        past l =
            let k = nearer_ahead n at u on t in
            (nearer n u, nearer_on_line n at u on, negative_in (then_not_after n (nearer n u) u a wu wu wa k l), negative_in k)

  goes_on : (first : Option End) → IsInterval f.support at f.edges (record { first = first; last = None }) → IsUnboundedAhead f at
  goes_on None h u on =
      let p = further n u in let q = further_on_line n at u on in
      (p, cut_on_line f at p q ∙ h.holds p q, negative_in (ahead_of_further n at u on t))
  goes_on (Some e) h u on =
      let b = beyond (spot_of e.point) h.ends.first.on u on in
      (b.0, cut_on_line f at b.0 b.1 ∙ h.holds b.0 b.1 ∙ ap (λ c. c && true) b.2, b.3)

  goes_back : (last : Option End) → IsInterval f.support at f.edges (record { first = None; last = last }) → IsUnboundedBack f at
  goes_back None h u on =
      let p = nearer n u in let q = nearer_on_line n at u on in
      (p, cut_on_line f at p q ∙ h.holds p q, negative_in (nearer_ahead n at u on t))
  goes_back (Some e) h u on =
      let b = ahead_of (spot_of e.point) h.ends.last.on u on in
      (b.0, cut_on_line f at b.0 b.1 ∙ h.holds b.0 b.1 ∙ b.2, b.3)

  pub endless_on : (first : Option End) → IsInterval f.support at f.edges (record { first = first; last = None }) → IsEndless f at
  endless_on first h = record { tilted = t; unbounded = inl (goes_on first h) }

  pub endless_back : (last : Option End) → IsInterval f.support at f.edges (record { first = None; last = last }) → IsEndless f at
  endless_back last h = record { tilted = t; unbounded = inr (goes_back last h) }

-- between two ends there is a segment exactly if the first is behind the plane of the last
pub answer_between : (f : Face) (at : ℤ) (a b : End) →
    IsInterval f.support at f.edges (record { first = Some a; last = Some b }) → (r : Option Segment) →
    MatchOption r (is_negative (value_at b.plane (spot_of a.point)) ≡ false)
    (λ s. (is_negative (value_at b.plane (spot_of a.point)) ≡ true) × Joins (spot_of a.point) (spot_of b.point) s) →
    IsAnswer f at (Ok r)
answer_between f at a b h None k = no_segment f at a b h k
answer_between f at a b h (Some s) k = segment_between f at a b h s k.0 k.1
