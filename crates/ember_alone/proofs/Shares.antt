-- The parts of an alone triangle together are crossed as what separates its sides: where a ray passes through the
-- triangle, the number of crossings is the change of the condition from one side to the other.
use Rattle.std.proofs.Common.{◌≡◌, ◌≢◌, ◌⊎◌, ⊎_elim, inl, inr, refl, sym, ap, subst, ◌∙◌, arith, le_refl, ℕ, nat_eq, Bool, true}
use Rattle.std.proofs.Common.{false, cond, ◌&&◌, List, [], ◌∷◌, Some, slice_get, ℤ, pos, negsuc, ◌+ℤ◌, ◌-ℤ◌, ◌*ℤ◌, neg_ℤ, ◌<ℤ◌, ◌≤ℤ◌}
use Rattle.std.specs.List.{AllByRecursion}
use Rattle.std.proofs.lemmas.Bool.{cases_Bool, cases_eq, eqb-true, eq-eqb, ne_eqb, false_from_ne_true}
use Rattle.ember_algebra.specs.Large.{Eventually}
use Rattle.ember_algebra.specs.Sign.{sign, is_negative, is_positive}
use Rattle.ember_algebra.specs.Sums.{total}
use Rattle.ember_algebra.proofs.Laws.{linear}
use Rattle.ember_algebra.proofs.Large.{eventually_both}
use Rattle.ember_algebra.proofs.Order.{by_sign, pos_mul, mul_neg_neg, sign_pos, sign_neg}
use Rattle.ember_model.specs.declared.plane.Plane.{Plane}
use Rattle.ember_model.specs.declared.point.Spot.{Spot}
use Rattle.ember_model.specs.declared.point.Axis.{Axis}
use Rattle.ember_model.specs.declared.point.Axis.TheVariants.{X, Y, Z}
use Rattle.ember_model.specs.declared.face.Face.{Face}
use Rattle.ember_model.specs.declared.tri.Tri.{Tri}
use Rattle.ember_model.specs.Planes.{value_at, along, main_axis, support_of, opposite}
use Rattle.ember_model.specs.Points.{scaled, moved, offset_by, DifferAlong}
use Rattle.ember_model.specs.Faces.{size, is_inside, is_in_closed, is_flat, face_of, hit, crossing}
use Rattle.ember_model.specs.Meshes.{faces_of, wind, vector}
use Rattle.ember_model.specs.Clear.{IsClear, AreClear}
use Rattle.ember_model.specs.Sides.{IsSides}
use Rattle.ember_model.proofs.SignTests.{negative_out, positive_in, positive_out, zero_scaled, zero_times, size_positive, clash, and_false}
use Rattle.ember_model.proofs.Hits.{inside_parts, slope_nonzero, inside_closed}
use Rattle.ember_law.proofs.CornerSides.{main_entry}
use Rattle.ember_law.proofs.GenericClear.{clear_shifted, clear_faces}
use Rattle.ember_law.proofs.Paths.{along_itself}
use Rattle.ember_law.proofs.Shifted.{weight_shifted}
use Rattle.ember_alone.specs.Touch.{IsAlone}
use Rattle.ember_alone.specs.UniformSides.{AreBalanced, IsPart}
use Rattle.ember_alone.specs.Whole.{WindWhere, AreMissedNearby, Fragment, IsFragmentOf, faces, behind, in_front, separating}
use Rattle.ember_law.proofs.Beside.{weight_beside, OneSign, faces_member}
use Rattle.ember_alone.proofs.UniformSides.{SidesAt, others_are_off, shifted_points_see, sides_of_part}
use Rattle.ember_alone.proofs.Short.{Counts, count_at, counted_legs, IsOffBoundary, short_segments_count}
use Rattle.ember_model.proofs.FlippedFaces.{along-opposite, hit-opposite, ahead-opposite, crossing-flipped}

-- ---- numbers
abbrev pub one : Bool → ℤ
one b = cond b (pos 1) (pos 0)

-- the way to the hit isn't negative
ahead : (s k : ℤ) → is_negative (s *ℤ k) ≡ true → pos 0 ≤ℤ neg_ℤ (sign k *ℤ s)
ahead s k e =
    let l = negative_out (s *ℤ k) e in
    by_sign k
    (λ p. let f = ap (λ (z : ℤ). z *ℤ s) (sign_pos p) in
    by_sign s (λ q. absurd (let m = pos_mul q p in omega (arith, linear, l, m))) (λ z. omega (arith, linear, f, z)) (λ q. omega (arith, linear, f, q)))
    (λ z. absurd (let m = zero_scaled s k z in omega (arith, linear, l, m)))
    (λ p. let f = ap (λ (z : ℤ). z *ℤ s) (sign_neg p) in
    by_sign s (λ q. omega (arith, linear, f, q)) (λ z. omega (arith, linear, f, z)) (λ q. absurd (let m = mul_neg_neg q p in omega (arith, linear, l, m))))

-- a negative number fails the test
pub not_positive : {z : ℤ} → z <ℤ pos 0 → is_positive z ≡ false
not_positive {z} l = false_from_ne_true (is_positive z) (λ e. let p = positive_out z e in omega (arith, linear, l, p))

positive_or_negative : (z : ℤ) → z ≢ pos 0 → (pos 0 <ℤ z) ⊎ (z <ℤ pos 0)
positive_or_negative z n = by_sign z (λ l. inl l) (λ e. absurd (n e)) (λ l. inr l)

-- a difference by what it is counted as
change_is : (p q l n s u v : ℤ) → p -ℤ q ≡ l → l ≡ n → n ≡ s → p ≡ u → q ≡ v → s ≡ u -ℤ v
change_is p q l n s u v a b c d e = omega (arith, linear, a, b, c, d, e)

-- two points of a line along an axis, shifted alike
differ_along : (a : Axis) (h : Spot) (m : ℕ) (k : ℤ) →
    DifferAlong a (offset_by (moved (scaled (pos m) h) a (negsuc 0)) k) (offset_by (moved (scaled (pos m) h) a (pos 1)) k)
differ_along X h m k = (refl, refl)
differ_along Y h m k = (refl, refl)
differ_along Z h m k = (refl, refl)

-- ---- what separates the sides
separating_winds : (f : Face) (a : Axis) (p : Spot) (s : ℤ) (back front : Bool) → crossing f a p ≡ s →
    wind a (separating back front f) p ≡ s *ℤ (one back -ℤ one front)
separating_winds f a p s true true c = let e : s *ℤ (pos 1 -ℤ pos 1) ≡ pos 0 = omega (arith, linear) in sym e
separating_winds f a p s true false c = omega (arith, linear, c)
separating_winds f a p s false true c = let t = crossing-flipped f a p in omega (arith, linear, c, t)
separating_winds f a p s false false c = let e : s *ℤ (pos 0 -ℤ pos 0) ≡ pos 0 = omega (arith, linear) in sym e

-- ---- a triangle that is alone, the sides of a part of it, and fragments that wind where a condition holds
module _ (ts : List Tri) (balanced : AreBalanced ts) (i : ℕ) (t : Tri) (here : slice_get ts i ≡ Some t) (alone : IsAlone ts i)
    (full : is_flat t ≡ false) (x : List ℤ → Bool) (part : Face) (is_part : IsPart (face_of t) part) (before after : List ℤ)
    (sides : IsSides ts part before after) (ks : List Fragment) (fragments : AllByRecursion (IsFragmentOf ts) ks)
    (near : AreMissedNearby (faces ks)) (meaning : WindWhere ts x (faces ks)) (a : Axis) (p : Spot) (weight : pos 0 <ℤ p.w)
    (clear : AreClear (faces_of ts) p) where
  abbrev n : Plane
  n = support_of t

  abbrev h : Spot
  h = hit n a p

  abbrev leads_to : Bool
  leads_to = is_negative (value_at n p *ℤ along n a)

  -- the crossing of a fragment of t, and nothing of the others
  abbrev pub share : Fragment → ℤ
  share k = cond (nat_eq k.triangle i) (crossing k.face a p) (pos 0)

  -- ---- fragments of t
  of_t : (k : Fragment) → IsFragmentOf ts k → nat_eq k.triangle i ≡ true →
      ((k.face.support ≡ n) ⊎ (k.face.support ≡ opposite n)) × ((v : Spot) → is_in_closed k.face v ≡ true → is_in_closed (face_of t) v ≡ true)
  of_t k r e =
      subst (λ (u : Tri). ((k.face.support ≡ support_of u) ⊎ (k.face.support ≡ opposite (support_of u))) ×
      ((v : Spot) → is_in_closed k.face v ≡ true → is_in_closed (face_of u) v ≡ true)) same (r.support, r.closed)
    where
      same : r.tri ≡ t
      same = let q = ap (slice_get ts) (eqb-true k.triangle i e) in let s = r.here in cc

  -- a ray meets the plane of such a face where it meets that of t
  same_hit : (f : Face) → (f.support ≡ n) ⊎ (f.support ≡ opposite n) → hit f.support a p ≡ h
  same_hit f (inl e) = ap (λ (m : Plane). hit m a p) e
  same_hit f (inr e) = ap (λ (m : Plane). hit m a p) e ∙ hit-opposite n a p

  same_ahead : (f : Face) → (f.support ≡ n) ⊎ (f.support ≡ opposite n) → is_negative (value_at f.support p *ℤ along f.support a) ≡ leads_to
  same_ahead f (inl e) = ap (λ (m : Plane). is_negative (value_at m p *ℤ along m a)) e
  same_ahead f (inr e) = ap (λ (m : Plane). is_negative (value_at m p *ℤ along m a)) e ∙ ap is_negative (ahead-opposite n a p)

  own_crossing : (f : Face) → (f.support ≡ n) ⊎ (f.support ≡ opposite n) → crossing f a p ≡ cond (leads_to && is_inside f h) (sign (along f.support a)) (pos 0)
  unfolding crossing
  own_crossing f s = let e = same_ahead f s in let d = ap (is_inside f) (same_hit f s) in λ j. cond (e j && d j) (sign (along f.support a)) (pos 0)

  tri_crossing : crossing (face_of t) a p ≡ cond (leads_to && is_inside (face_of t) h) (sign (along n a)) (pos 0)
  unfolding crossing face_of
  tri_crossing = refl

  -- ---- a ray that doesn't pass through t
  module _ (missed : leads_to && is_inside (face_of t) h ≡ false) where
    passes_by : (f : Face) → (f.support ≡ n) ⊎ (f.support ≡ opposite n) →
        ((v : Spot) → is_in_closed f v ≡ true → is_in_closed (face_of t) v ≡ true) → crossing f a p ≡ pos 0
    passes_by f s c = by (cases_Bool leads_to)
      where
        strict : leads_to ≡ true → is_in_closed (face_of t) h ≡ true → is_inside (face_of t) h ≡ true
        strict e o =
            (faces_member (λ g. IsClear g p) ts i t clear here full).rays a (size (along n a)) (neg_ℤ (sign (along n a) *ℤ value_at n p))
            (size_positive (along n a) (slope_nonzero (value_at n p) (along n a) e)) (ahead (value_at n p) (along n a) e) o

        outside : leads_to ≡ true → is_inside f h ≡ false
        outside e =
            false_from_ne_true (is_inside f h) (λ o. clash {b = leads_to && is_inside (face_of t) h} (λ j. e j && strict e (c h (inside_closed f h o)) j) missed)

        by : (leads_to ≡ true) ⊎ (leads_to ≡ false) → crossing f a p ≡ pos 0
        by (inl e) = let o = outside e in own_crossing f s ∙ (λ j. cond (e j && o j) (sign (along f.support a)) (pos 0))
        by (inr e) = own_crossing f s ∙ ap (λ (b : Bool). cond (b && is_inside f h) (sign (along f.support a)) (pos 0)) e

    no_share : (k : Fragment) → IsFragmentOf ts k → share k ≡ pos 0
    no_share k r = by (cases_Bool (nat_eq k.triangle i))
      where
        by : (nat_eq k.triangle i ≡ true) ⊎ (nat_eq k.triangle i ≡ false) → share k ≡ pos 0
        by (inl e) =
            let o = of_t k r e in
            ap (λ (b : Bool). cond b (crossing k.face a p) (pos 0)) e ∙ passes_by k.face o.0 o.1
        by (inr e) = ap (λ (b : Bool). cond b (crossing k.face a p) (pos 0)) e

    no_shares : (gs : List Fragment) → AllByRecursion (IsFragmentOf ts) gs → total share gs ≡ pos 0
    no_shares [] r = refl
    no_shares (k ∷ gs) r = let u = no_share k r.0 in let v = no_shares gs r.1 in omega (arith, linear, u, v)

    shares_beside : total share ks ≡ wind a (separating (x (behind part before after)) (x (in_front part before after)) (face_of t)) p
    shares_beside =
        let c = tri_crossing ∙ ap (λ (b : Bool). cond b (sign (along n a)) (pos 0)) missed in
        let back = x (behind part before after) in let front = x (in_front part before after) in
        let e = separating_winds (face_of t) a p (pos 0) back front c in let o = zero_times (pos 0) (one back -ℤ one front) refl in
        no_shares ks fragments ∙ sym (e ∙ o)

  -- ---- a ray that passes through t
  module _ (clear_fragments : AreClear (faces ks) p) (leads : leads_to ≡ true) (inside : is_inside (face_of t) h ≡ true) where
    slope : along n a ≢ pos 0
    slope = slope_nonzero (value_at n p) (along n a) leads

    hit_weight : pos 0 <ℤ h.w
    hit_weight = (inside_parts (face_of t) h inside).0

    along_own : (f : Face) → (f.support ≡ n) ⊎ (f.support ≡ opposite n) → along f.support a ≢ pos 0
    along_own f (inl e) z = slope (sym (ap (λ (m : Plane). along m a) e) ∙ z)
    along_own f (inr e) z = let o = along-opposite a n in let d = sym (ap (λ (m : Plane). along m a) e) ∙ z in slope (omega (arith, linear, o, d))

    -- an own fragment is clear, and no other one has a point here
    off_boundary : (k : Fragment) → IsFragmentOf ts k → IsClear k.face p → IsOffBoundary a h k.face
    off_boundary k r c = by (cases_eq k.triangle i)
      where
        away : k.triangle ≢ i → is_in_closed k.face h ≡ true → ⊥
        away ne e = clash (r.closed h e) (others_are_off ts balanced i t here alone full k.triangle r.tri ne r.here r.full h inside)

        by : (k.triangle ≡ i) ⊎ (k.triangle ≢ i) → IsOffBoundary a h k.face
        by (inl e) =
            record {
              strict = λ o. c.rays a (size (along n a)) (neg_ℤ (sign (along n a) *ℤ value_at n p)) (size_positive (along n a) slope)
                  (ahead (value_at n p) (along n a) leads) o;
              slope = λ o. along_own k.face (of_t k r (eq-eqb k.triangle i e)).0;
            }
        by (inr ne) =
            record { strict = λ o. absurd (away ne o); slope = λ o. absurd (away ne (inside_closed k.face h o)) }

    all_off : (gs : List Fragment) → AllByRecursion (IsFragmentOf ts) gs → AreClear (faces gs) p → AllByRecursion (IsOffBoundary a h) (faces gs)
    all_off [] r c = tt
    all_off (k ∷ gs) r c = (off_boundary k r.0 c.0, all_off gs r.1 c.1)

    -- a share is what a short segment through the hit counts
    share_counted : (k : Fragment) → IsFragmentOf ts k → count_at a h k.face ≡ share k
    share_counted k r = by (cases_eq k.triangle i)
      where
        by : (k.triangle ≡ i) ⊎ (k.triangle ≢ i) → count_at a h k.face ≡ share k
        by (inl e) =
            let q = eq-eqb k.triangle i e in let o = of_t k r q in
            sym (ap (λ (b : Bool). cond b (crossing k.face a p) (pos 0)) q ∙ own_crossing k.face o.0
            ∙ ap (λ (b : Bool). cond (b && is_inside k.face h) (sign (along k.face.support a)) (pos 0)) leads)
        by (inr ne) =
            let o : is_inside k.face h ≡ false = false_from_ne_true (is_inside k.face h) (λ c. clash (r.closed h (inside_closed k.face h c))
            (others_are_off ts balanced i t here alone full k.triangle r.tri ne r.here r.full h inside)) in
            ap (λ (b : Bool). cond b (sign (along k.face.support a)) (pos 0)) o
            ∙ sym (ap (λ (b : Bool). cond b (crossing k.face a p) (pos 0)) (ne_eqb k.triangle i ne))

    shares_counted : (gs : List Fragment) → AllByRecursion (IsFragmentOf ts) gs → total (count_at a h) (faces gs) ≡ total share gs
    shares_counted [] r = refl
    shares_counted (k ∷ gs) r = let u = share_counted k r.0 in let v = shares_counted gs r.1 in λ j. u j +ℤ v j

    -- ---- the change from one side to the other
    abbrev back_at : ℕ → Spot
    back_at m = moved (scaled (pos m) h) a (negsuc 0)

    abbrev on_at : ℕ → Spot
    on_at m = moved (scaled (pos m) h) a (pos 1)

    abbrev See : (ℕ → Spot) → List ℤ → Type 0
    See at counts =
        Eventually (λ m. Eventually (λ l. AreClear (faces_of ts) (offset_by (at m) (pos l)) → (y : Axis) → vector y ts (offset_by (at m) (pos l)) ≡ counts))

    -- between clear points, of which each sees one side
    between_ends : (back on : Spot) (u v : List ℤ) → pos 0 <ℤ back.w → pos 0 <ℤ on.w → DifferAlong a back on → AreClear (faces_of ts) back →
        AreClear (faces_of ts) on → AreClear (faces ks) back → AreClear (faces ks) on →
        AllByRecursion (λ f. Counts f a back on (count_at a h f)) (faces ks) → vector a ts back ≡ u → vector a ts on ≡ v →
        total share ks ≡ one (x u) -ℤ one (x v)
    between_ends back on u v wb wo d cb co kb ko c eu ev =
        change_is _ _ _ _ _ _ _ (along_itself a back on (faces ks) wb wo d kb ko) (counted_legs a h back on (faces ks) wb wo c)
        (shares_counted ks fragments) (meaning a a back wb cb kb ∙ ap (λ (w : List ℤ). one (x w)) eu)
        (meaning a a on wo co ko ∙ ap (λ (w : List ℤ). one (x w)) ev)

    jump : (u v : List ℤ) → See back_at u → See on_at v → total share ks ≡ one (x u) -ℤ one (x v)
    jump u v see_back see_on =
        let outer = eventually_both see_back (eventually_both see_on (eventually_both
        (short_segments_count a h (faces ks) hit_weight (all_off ks fragments clear_fragments))
        (eventually_both (weight_beside h a (negsuc 0) hit_weight) (weight_beside h a (pos 1) hit_weight)))) in
        at_one outer.from (outer.holds outer.from (le_refl outer.from))
      where
        Near : ℕ → Type 0
        Near m =
            Eventually (λ l. AreClear (faces_of ts) (offset_by (back_at m) (pos l)) → (y : Axis) → vector y ts (offset_by (back_at m) (pos l)) ≡ u) ×
            (Eventually (λ l. AreClear (faces_of ts) (offset_by (on_at m) (pos l)) → (y : Axis) → vector y ts (offset_by (on_at m) (pos l)) ≡ v) ×
            (Eventually (λ l. AllByRecursion (λ f. Counts f a (offset_by (back_at m) (pos l)) (offset_by (on_at m) (pos l)) (count_at a h f)) (faces ks)) ×
            ((pos 0 <ℤ (back_at m).w) × (pos 0 <ℤ (on_at m).w))))

        at_one : (m : ℕ) → Near m → total share ks ≡ one (x u) -ℤ one (x v)
        at_one m o =
            let wb = o.1.1.1.0 in let wo = o.1.1.1.1 in
            let inner = eventually_both o.0 (eventually_both o.1.0 (eventually_both o.1.1.0 (eventually_both
            (eventually_both (weight_shifted (back_at m) wb) (weight_shifted (on_at m) wo))
            (eventually_both (eventually_both (clear_shifted (back_at m) ts wb) (clear_shifted (on_at m) ts wo))
            (eventually_both (near (back_at m) wb) (near (on_at m) wo)))))) in
            let l = inner.from in let r = inner.holds l (le_refl l) in
            let back = offset_by (back_at m) (pos l) in let on = offset_by (on_at m) (pos l) in
            let cb = clear_faces back ts r.1.1.1.1.0.0 in let co = clear_faces on ts r.1.1.1.1.0.1 in
            between_ends back on u v r.1.1.1.0.0 r.1.1.1.0.1 (differ_along a h m (pos l)) cb co r.1.1.1.1.1.0 r.1.1.1.1.1.1 r.1.1.0 (r.0 cb a) (r.1.0 co a)

    -- ---- which side is which
    abbrev k : Axis
    k = main_axis n

    entry_is : along part.support (main_axis part.support) ≡ along n k
    unfolding face_of
    entry_is = ap (λ (m : Plane). along m (main_axis m)) is_part.support

    behind_is : (b : Bool) → is_positive (along n k) ≡ b → behind part before after ≡ cond b before after
    behind_is b e = ap (λ (z : ℤ). cond (is_positive z) before after) entry_is ∙ ap (λ (c : Bool). cond c before after) e

    in_front_is : (b : Bool) → is_positive (along n k) ≡ b → in_front part before after ≡ cond b after before
    in_front_is b e = ap (λ (z : ℤ). cond (is_positive z) after before) entry_is ∙ ap (λ (c : Bool). cond c after before) e

    whole_winds : (s : ℤ) (u v : List ℤ) → sign (along n a) ≡ s → behind part before after ≡ u → in_front part before after ≡ v →
        wind a (separating (x (behind part before after)) (x (in_front part before after)) (face_of t)) p ≡ s *ℤ (one (x u) -ℤ one (x v))
    whole_winds s u v e eu ev =
        separating_winds (face_of t) a p (sign (along n a)) (x (behind part before after)) (x (in_front part before after))
        (tri_crossing ∙ (λ j. cond (leads j && inside j) (sign (along n a)) (pos 0)))
        ∙ (λ j. e j *ℤ (one (x (eu j)) -ℤ one (x (ev j))))

    shares_through : total share ks ≡ wind a (separating (x (behind part before after)) (x (in_front part before after)) (face_of t)) p
    shares_through = by (positive_or_negative (along n a) slope) (positive_or_negative (along n k) (main_entry t full))
      where
        s : SidesAt ts t before after
        s = sides_of_part ts balanced i t here alone full part before after is_part sides

        see_before : (e : ℤ) → OneSign (neg_ℤ (pos 1) *ℤ along n k) (e *ℤ along n a) → See (λ m. moved (scaled (pos m) h) a e) before
        see_before e o =
            shifted_points_see ts balanced i t here alone full s.at h s.inside inside k a (neg_ℤ (pos 1)) e o s.bound before s.sees_before

        see_after : (e : ℤ) → OneSign (pos 1 *ℤ along n k) (e *ℤ along n a) → See (λ m. moved (scaled (pos m) h) a e) after
        see_after e o =
            shifted_points_see ts balanced i t here alone full s.at h s.inside inside k a (pos 1) e o s.bound after s.sees_after

        by : (pos 0 <ℤ along n a) ⊎ (along n a <ℤ pos 0) → (pos 0 <ℤ along n k) ⊎ (along n k <ℤ pos 0) →
            total share ks ≡ wind a (separating (x (behind part before after)) (x (in_front part before after)) (face_of t)) p
        by (inl l) (inl g) =
            let j = jump before after (see_before (negsuc 0) (inr (omega (arith, linear, g), omega (arith, linear, l))))
            (see_after (pos 1) (inl (omega (arith, linear, g), omega (arith, linear, l)))) in
            let w = whole_winds (pos 1) before after (sign_pos l) (behind_is true (positive_in g)) (in_front_is true (positive_in g)) in
            omega (arith, linear, j, w)
        by (inl l) (inr g) =
            let j = jump after before (see_after (negsuc 0) (inr (omega (arith, linear, g), omega (arith, linear, l))))
            (see_before (pos 1) (inl (omega (arith, linear, g), omega (arith, linear, l)))) in
            let w = whole_winds (pos 1) after before (sign_pos l) (behind_is false (not_positive g)) (in_front_is false (not_positive g)) in
            omega (arith, linear, j, w)
        by (inr l) (inl g) =
            let j = jump after before (see_after (negsuc 0) (inl (omega (arith, linear, g), omega (arith, linear, l))))
            (see_before (pos 1) (inr (omega (arith, linear, g), omega (arith, linear, l)))) in
            let w = whole_winds (negsuc 0) before after (sign_neg l) (behind_is true (positive_in g)) (in_front_is true (positive_in g)) in
            omega (arith, linear, j, w)
        by (inr l) (inr g) =
            let j = jump before after (see_before (negsuc 0) (inl (omega (arith, linear, g), omega (arith, linear, l))))
            (see_after (pos 1) (inr (omega (arith, linear, g), omega (arith, linear, l)))) in
            let w = whole_winds (negsuc 0) after before (sign_neg l) (behind_is false (not_positive g)) (in_front_is false (not_positive g)) in
            omega (arith, linear, j, w)

  -- whether or not the ray passes through t
  pub shares_are_whole : AreClear (faces ks) p → total share ks ≡ wind a (separating (x (behind part before after)) (x (in_front part before after)) (face_of t)) p
  shares_are_whole clear_fragments =
      ⊎_elim (λ l. ⊎_elim (λ o. shares_through clear_fragments l o)
      (λ o. shares_beside (ap (λ (b : Bool). leads_to && b) o ∙ and_false leads_to false refl)) (cases_Bool (is_inside (face_of t) h)))
      (λ l. shares_beside (ap (λ (b : Bool). b && is_inside (face_of t) h) l)) (cases_Bool leads_to)
