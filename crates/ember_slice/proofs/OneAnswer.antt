-- A face gives one answer at a level, and faces have one text.
use Rattle.std.proofs.Common.{◌≡◌, ⊎_elim, refl, sym, ap, subst, ◌∙◌, arith, ℕ, ℤ, pos, negsuc, ◌+ℤ◌, ◌-ℤ◌, ◌*ℤ◌, neg_ℤ}
use Rattle.std.proofs.Common.{◌<ℤ◌, ◌≤ℤ◌, true, ◌&&◌, List, [], ◌∷◌, ◌++◌, length, flat_map, codes}
use Rattle.std.proofs.lemmas.Bool.{and_parts}
use Rattle.ember_algebra.proofs.Laws.{linear, from_one, from_two}
use Rattle.ember_algebra.proofs.Ring.{num, neg, ◌⊕◌, ◌⊖◌, ◌⊗◌, ◌≈◌, solve, cancels}
use Rattle.ember_algebra.proofs.Order.{by_sign, cancel_eq}
use Rattle.ember_algebra.proofs.Relations.{each_unique}
use Rattle.ember_model.specs.declared.plane.Plane.{Plane}
use Rattle.ember_model.specs.declared.point.Spot.{Spot}
use Rattle.ember_model.specs.declared.face.Face.{Face}
use Rattle.ember_model.specs.Planes.{value_at}
use Rattle.ember_model.specs.Points.{plus_s}
use Rattle.ember_model.specs.Edges.{SamePoint}
use Rattle.ember_model.specs.FaceFiles.{line_of, ending}
use Rattle.ember_model.proofs.SignTests.{negative_in, negative_out, clash}
use Rattle.ember_reread.proofs.Lowest.{same_lowest}
use Rattle.ember_slice.specs.Lines.{level, IsFlat, ahead, is_before}
use Rattle.ember_slice.specs.Segments.{is_cut, IsSegment, GivesNone, Directed, GivesSegments, segment_line, IsSliceText}
use Rattle.ember_slice.specs.Crossings.{gap}
use Rattle.ember_slice.proofs.Along.{OnLine, on_line_out, on_line_in, ahead_turned, square, square_above}
use Rattle.ember_slice.proofs.Orders.{not_after_then, then_not_after, not_both, tilted}
use Rattle.ember_slice.proofs.Passing.{rises, falls}

-- ---- between two points of the line
module _ (n : Plane) (at : ℤ) (u v : Spot) (hu : OnLine n at u) (hv : OnLine n at v) where
  middle_on_line : OnLine n at (plus_s u v)
  middle_on_line =
      record {
        weight = omega (arith, linear, hu.weight, hv.weight);
        support =
            sum n ∙ zeros hu.support hv.support;
        level = sum (level at) ∙ zeros hu.level hv.level;
      }
    where
      sum : (p : Plane) → value_at p (plus_s u v) ≡ value_at p u +ℤ value_at p v
      sum p =
          solve 12 (λ a b c d x y z w e f g h. a ⊗ (x ⊕ e) ⊕ b ⊗ (y ⊕ f) ⊕ c ⊗ (z ⊕ g) ⊖ d ⊗ (w ⊕ h) ≈
          (a ⊗ x ⊕ b ⊗ y ⊕ c ⊗ z ⊖ d ⊗ w) ⊕ (a ⊗ e ⊕ b ⊗ f ⊕ c ⊗ g ⊖ d ⊗ h)) cancels p.a p.b p.c p.d u.x u.y u.z u.w
          v.x v.y v.z v.w

      zeros : {a b : ℤ} → a ≡ pos 0 → b ≡ pos 0 → a +ℤ b ≡ pos 0
      zeros e f = omega (arith, linear, e, f)

  ahead_of_middle : ahead n u (plus_s u v) ≡ ahead n u v
  ahead_of_middle =
      solve 8 (λ a b x y w e f h. (w ⊕ h) ⊗ (a ⊗ y ⊖ b ⊗ x) ⊖ w ⊗ (a ⊗ (y ⊕ f) ⊖ b ⊗ (x ⊕ e)) ≈ h ⊗ (a ⊗ y ⊖ b ⊗ x) ⊖ w
      ⊗ (a ⊗ f ⊖ b ⊗ e)) cancels n.a n.b u.x u.y u.w v.x v.y v.w

  middle_ahead : ahead n (plus_s u v) v ≡ ahead n u v
  middle_ahead =
      solve 8 (λ a b x y w e f h. h ⊗ (a ⊗ (y ⊕ f) ⊖ b ⊗ (x ⊕ e)) ⊖ (w ⊕ h) ⊗ (a ⊗ f ⊖ b ⊗ e) ≈ h ⊗ (a ⊗ y ⊖ b ⊗ x) ⊖ w
      ⊗ (a ⊗ f ⊖ b ⊗ e)) cancels n.a n.b u.x u.y u.w v.x v.y v.w

  -- neither comes before the other
  one_place : (IsFlat n → ⊥) → ahead n u v ≡ pos 0 → SamePoint u v
  one_place t e =
      record {
        x = x_from (no_gap (λ s. neg_ℤ s.x) n.b (falls n at u v hu hv));
        y =
            y_from (no_gap (λ s. s.y) n.a (rises n at u v hu hv));
        z = z_from hu.level hv.level;
      }
    where
      no_gap : (c : Spot → ℤ) (k : ℤ) → (pos 2 *ℤ k) *ℤ ahead n u v ≡ (pos 2 *ℤ square n) *ℤ gap c u v → gap c u v ≡ pos 0
      no_gap c k g =
          cancel_eq {c = pos 2 *ℤ square n} (λ z. omega (arith, linear, z, square_above n t))
          (sym g ∙ ap (λ a. (pos 2 *ℤ k) *ℤ a) e ∙ zeros (pos 2 *ℤ k) (pos 2 *ℤ square n))
        where
          zeros : (x y : ℤ) → x *ℤ pos 0 ≡ y *ℤ pos 0
          zeros x y = omega (arith, linear)

      y_from : gap (λ s. s.y) u v ≡ pos 0 → v.w *ℤ u.y ≡ u.w *ℤ v.y
      y_from g = omega (arith, linear, g)

      x_from : gap (λ s. neg_ℤ s.x) u v ≡ pos 0 → v.w *ℤ u.x ≡ u.w *ℤ v.x
      x_from g = turned v.w u.x u.w v.x g
        where
          turned : (a b c d : ℤ) → a *ℤ neg_ℤ b -ℤ c *ℤ neg_ℤ d ≡ pos 0 → a *ℤ b ≡ c *ℤ d
          turned a b c d g = from_one (negsuc 0) g
              (solve 4 (λ a b c d. a ⊗ b ⊖ c ⊗ d ≈ num (negsuc 0) ⊗ ((a ⊗ neg b ⊖ c ⊗ neg d) ⊖ num (pos 0))) cancels a b c
              d)

      z_from : value_at (level at) u ≡ pos 0 → value_at (level at) v ≡ pos 0 → v.w *ℤ u.z ≡ u.w *ℤ v.z
      z_from g h =
          cancel_eq {c = pos 2} (λ z. omega (arith, linear, z))
          (from_two v.w (neg_ℤ u.w) g h (solve 9
          (λ e x y z w a b c d. num (pos 2) ⊗ (d ⊗ z) ⊖ num (pos 2) ⊗ (w ⊗ c) ≈ d ⊗
          ((num (pos 0) ⊗ x ⊕ num (pos 0) ⊗ y ⊕ num (pos 2) ⊗ z ⊖ e ⊗ w) ⊖ num (pos 0)) ⊕ neg w ⊗
          ((num (pos 0) ⊗ a ⊕ num (pos 0) ⊗ b ⊕ num (pos 2) ⊗ c ⊖ e ⊗ d) ⊖ num (pos 0))) cancels
          (pos 2 *ℤ at +ℤ pos 1) u.x u.y u.z u.w v.x v.y v.z v.w))

-- ---- two segments of one face
module _ (f : Face) (at : ℤ) where
  abbrev n : Plane
  n = f.support

  inner : (u v : Spot) → IsSegment f at u v → (p : Spot) → OnLine n at p → is_cut f at p ≡ true → (is_before n u p ≡ true) × (is_before n p v ≡ true)
  inner u v s p h c = and_parts (is_before n u p) (is_before n p v) (sym (s.between p (on_line_in n at p h)) ∙ c)

  outer : (u v : Spot) → IsSegment f at u v → (p : Spot) → OnLine n at p → is_before n u p ≡ true → is_before n p v ≡ true → is_cut f at p ≡ true
  outer u v s p h a b = s.between p (on_line_in n at p h) ∙ (λ i. a i && b i)

  module _ (u v a b : Spot) (s : IsSegment f at u v) (r : IsSegment f at a b) where
    hu : OnLine n at u
    hu = on_line_out n at u s.first

    hv : OnLine n at v
    hv = on_line_out n at v s.last

    ha : OnLine n at a
    ha = on_line_out n at a r.first

    hb : OnLine n at b
    hb = on_line_out n at b r.last

    begins : ahead n u a <ℤ pos 0 → ⊥
    begins l =
        by_sign (ahead n v a) within beyond_zero beyond
      where
        past : ahead n v a ≤ℤ pos 0 → ⊥
        past k =
            let m = plus_s u v in let hm = middle_on_line n at u v hu hv in
            let um = negative_in (subst (λ z. z <ℤ pos 0) (sym (ahead_of_middle n at u v hu hv)) (negative_out (ahead n u v) s.leads)) in
            let mv = subst (λ z. z <ℤ pos 0) (sym (middle_ahead n at u v hu hv)) (negative_out (ahead n u v) s.leads) in
            not_both n a m (inner a b r m hm (outer u v s m hm um (negative_in mv))).0 (negative_in (then_not_after n m v a hm.weight hv.weight ha.weight mv k))

        beyond_zero : ahead n v a ≡ pos 0 → ⊥
        beyond_zero k = past (omega (arith, linear, k))

        beyond : ahead n v a <ℤ pos 0 → ⊥
        beyond k = past (omega (arith, linear, k))

        within : pos 0 <ℤ ahead n v a → ⊥
        within k =
            let m = plus_s u a in let hm = middle_on_line n at u a hu ha in
            let um = negative_in (subst (λ z. z <ℤ pos 0) (sym (ahead_of_middle n at u a hu ha)) l) in
            let ma = subst (λ z. z <ℤ pos 0) (sym (middle_ahead n at u a hu ha)) l in
            let mv = negative_in (then_not_after n m a v hm.weight ha.weight hv.weight ma (omega (arith, linear, k, ahead_turned n v a))) in
            not_both n a m (inner a b r m hm (outer u v s m hm um mv)).0 (negative_in ma)

    ends : ahead n v b <ℤ pos 0 → ⊥
    ends l =
        by_sign (ahead n a v) later same_zero sooner
      where
        kept : ahead n a v ≤ℤ pos 0 → ⊥
        kept k =
            let m = plus_s v b in let hm = middle_on_line n at v b hv hb in
            let vm = subst (λ z. z <ℤ pos 0) (sym (ahead_of_middle n at v b hv hb)) l in
            let mb = negative_in (subst (λ z. z <ℤ pos 0) (sym (middle_ahead n at v b hv hb)) l) in
            let am = negative_in (not_after_then n a v m ha.weight hv.weight hm.weight k vm) in
            not_both n m v (inner u v s m hm (outer a b r m hm am mb)).1 (negative_in vm)

        same_zero : ahead n a v ≡ pos 0 → ⊥
        same_zero k = kept (omega (arith, linear, k))

        sooner : ahead n a v <ℤ pos 0 → ⊥
        sooner k = kept (omega (arith, linear, k))

        later : pos 0 <ℤ ahead n a v → ⊥
        later k =
            let m = plus_s a b in let hm = middle_on_line n at a b ha hb in
            let am = subst (λ z. z <ℤ pos 0) (sym (ahead_of_middle n at a b ha hb)) (negative_out (ahead n a b) r.leads) in
            let mb = negative_in (subst (λ z. z <ℤ pos 0) (sym (middle_ahead n at a b ha hb)) (negative_out (ahead n a b) r.leads)) in
            let vm = negative_in (not_after_then n v a m hv.weight ha.weight hm.weight (omega (arith, linear, k, ahead_turned n a v)) am) in
            not_both n m v (inner u v s m hm (outer a b r m hm (negative_in am) mb)).1 vm

  same_segment : (u v a b : Spot) → IsSegment f at u v → IsSegment f at a b → (u ≡ a) × (v ≡ b)
  same_segment u v a b s r =
      let t = tilted n u v s.leads in
      let hu = on_line_out n at u s.first in let hv = on_line_out n at v s.last in
      let ha = on_line_out n at a r.first in let hb = on_line_out n at b r.last in
      let first : ahead n u a ≡ pos 0 = neither (ahead n u a) (ahead n a u) (ahead_turned n u a) (begins u v a b s r) (begins a b u v r s) in
      let last : ahead n v b ≡ pos 0 = neither (ahead n v b) (ahead n b v) (ahead_turned n v b) (ends u v a b s r) (ends a b u v r s) in (
        same_lowest u a hu.weight ha.weight (one_place n at u a hu ha t first) s.first_lowest r.first_lowest,
        same_lowest v b hv.weight hb.weight (one_place n at v b hv hb t last) s.last_lowest r.last_lowest,
      )
    where
      neither : (x y : ℤ) → y ≡ neg_ℤ x → (x <ℤ pos 0 → ⊥) → (y <ℤ pos 0 → ⊥) → x ≡ pos 0
      neither x y e p q =
          by_sign x (λ l. absurd (q (omega (arith, linear, l, e)))) (λ z. z) (λ l. absurd (p l))

  not_none : (u v : Spot) → IsSegment f at u v → GivesNone f at → ⊥
  not_none u v s g =
      let hu = on_line_out n at u s.first in let hv = on_line_out n at v s.last in
      let l = negative_out (ahead n u v) s.leads in
      let um = negative_in (subst (λ z. z <ℤ pos 0) (sym (ahead_of_middle n at u v hu hv)) l) in
      let mv = negative_in (subst (λ z. z <ℤ pos 0) (sym (middle_ahead n at u v hu hv)) l) in
      ⊎_elim (λ t. tilted n u v s.leads t) (λ k. clash (outer u v s (plus_s u v) (middle_on_line n at u v hu hv) um mv) (k (plus_s u v))) g

gives_one : (at : ℤ) (f : Face) (ss ts : List Directed) → GivesSegments at f ss → GivesSegments at f ts → ss ≡ ts
gives_one at f [] [] g h = refl
gives_one at f [] (t ∷ []) g h = absurd (not_none f at t.first t.last h g)
gives_one at f [] (t ∷ s ∷ ts) g h = absurd h
gives_one at f (s ∷ []) [] g h = absurd (not_none f at s.first s.last g h)
gives_one at f (s ∷ []) (t ∷ []) g h =
    let e = same_segment f at s.first s.last t.first t.last g h in
    λ i. record { first = e.0 i; last = e.1 i } ∷ []
gives_one at f (s ∷ []) (t ∷ r ∷ ts) g h = absurd h
gives_one at f (s ∷ t ∷ ss) ts g h = absurd g

-- faces have one text at a level
pub one_text : (fs : List Face) (at : ℤ) (one other : List ℕ) → IsSliceText fs at one → IsSliceText fs at other → one ≡ other
one_text fs at one other g h =
    let e = each_unique (gives_one at) g.are_segments h.are_segments in
    g.is ∙ ap (λ ss. line_of (codes "slice") (at ∷ []) ++ (flat_map segment_line ss ++ ending (length ss))) e ∙ sym h.is
