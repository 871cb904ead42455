-- The way from directly beside a triangle to a point close to an edge, in front of it and of its neighbour.
use Rattle.std.proofs.Common.{◌≡◌, ◌≢◌, ◌⊎◌, ⊎_elim, inl, inr, refl, sym, ap, subst, ◌∙◌, arith, ℕ, ◌≤◌, true, false, List, Some, slice_get, ℤ, pos, ◌+ℤ◌, ◌*ℤ◌, ◌<ℤ◌, ◌≤ℤ◌}
use Rattle.std.proofs.lemmas.Bool.{cases_eq, false_from_ne_true}
use Rattle.std.proofs.lemmas.Int.{by_lt_z}
use borrow.Author.Differences.{ints}
use Rattle.ember_algebra.specs.Large.{Eventually}
use Rattle.ember_algebra.proofs.Laws.{linear}
use Rattle.ember_algebra.proofs.Large.{eventually_both}
use Rattle.ember_algebra.proofs.Order.{pos_mul, mul_neg_pos, mul_pos_neg}
use Rattle.ember_model.specs.declared.plane.Plane.{Plane}
use Rattle.ember_model.specs.declared.point.Corner.{Corner}
use Rattle.ember_model.specs.declared.point.Spot.{Spot}
use Rattle.ember_model.specs.declared.point.Axis.{Axis}
use Rattle.ember_model.specs.declared.tri.Tri.{Tri}
use Rattle.ember_model.specs.Planes.{value_at, along, main_axis, support_of, times_plane, opposite}
use Rattle.ember_model.specs.Points.{plus_s, offset_by}
use Rattle.ember_model.specs.Faces.{is_inside, is_in_closed, is_flat, face_of}
use Rattle.ember_model.specs.Clear.{AreClear}
use Rattle.ember_model.specs.Meshes.{faces_of, vector as vector_at}
use Rattle.ember_model.specs.Owners.{spot_of_corner}
use Rattle.ember_model.proofs.SignTests.{positive_in, zero_scaled, zero_times}
use Rattle.ember_model.proofs.PlaneValues.{value_scaled, value_plus, value_times, value-opposite}
use Rattle.ember_model.proofs.Hits.{inside_on, closed_on, closed_parts}
use Rattle.ember_law.proofs.CornerSides.{above_corners}
use Rattle.ember_law.proofs.Separation.{combination_value, missed_face_has_separating_edge}
use Rattle.ember_alone.specs.Touch.{HasCorner, IsInCommon, IsAlone}
use Rattle.ember_alone.specs.UniformSides.{AreBalanced}
use Rattle.ember_law.proofs.Beside.{faces_each}
use Rattle.ember_alone.proofs.CloseTo.{close, value_close, stays_positive, weight_close, IsKeptOff, by_other, by_own, close_points_see}
use Rattle.ember_alone.proofs.Frames.{IsTurned, corner_of_turned, Frame, frame}
use Rattle.ember_alone.proofs.UniformSides.{Sees}
use Rattle.ember_alone.proofs.Short.{single_point_is_missed}
use Rattle.ember_alone.proofs.CommonEdges.{made, support_is, zero_at_first, zero_at_second, zero_at_third, same_depth}

-- ---- t and r are alone, and an edge leads from u to v in t, and back in r
pub record AreBeside (ts : List Tri) (i j : ℕ) (t r : Tri) (u v w z : Corner) : Type 0 where
  pub different : j ≢ i
  pub here : slice_get ts i ≡ Some t
  pub there : slice_get ts j ≡ Some r
  pub full : is_flat t ≡ false
  pub full_there : is_flat r ≡ false
  pub alone : IsAlone ts i
  pub alone_there : IsAlone ts j
  pub edge : IsTurned t u v w
  pub back : IsTurned r v u z
  pub only : (k : ℕ) (s : Tri) → k ≢ i → k ≢ j → slice_get ts k ≡ Some s → is_flat s ≡ false → HasCorner s u → HasCorner s v → ⊥

-- in the other order
pub swapped : {ts : List Tri} {i j : ℕ} {t r : Tri} {u v w z : Corner} → AreBeside ts i j t r u v w z → AreBeside ts j i r t v u z w
swapped b =
    record {
      different = λ e. b.different (sym e);
      here = b.there;
      there = b.here;
      full = b.full_there;
      full_there = b.full;
      alone = b.alone_there;
      alone_there = b.alone;
      edge = b.back;
      back = b.edge;
      only = λ k s nj ni at nf hv hu. b.only k s ni nj at nf hu hv;
    }

-- the planes with the front to the side that s stands for, 1 or -1
abbrev pub turned_to : ℤ → Tri → Plane
turned_to s t = times_plane s (support_of t)

-- a point on the edge: its values are the sums of those at the two ends
pub record IsMiddle (u v : Corner) (x : Spot) : Type 0 where
  pub weight : pos 0 <ℤ x.w
  pub value : (g : Plane) → value_at g x ≡ value_at g (spot_of_corner u) +ℤ value_at g (spot_of_corner v)

-- halfway between the two ends
pub middle : (u v : Corner) → IsMiddle u v (plus_s (spot_of_corner u) (spot_of_corner v))
middle u v =
    record {
      weight = let l : pos 0 <ℤ (pos 1 +ℤ pos 1) = omega (arith, ints) in l;
      value = λ g. value_plus g (spot_of_corner u) (spot_of_corner v);
    }

-- in the other order
pub middle_turned : {u v : Corner} {x : Spot} → IsMiddle u v x → IsMiddle v u x
middle_turned m =
    record { weight = m.weight; value = λ g. let e = m.value g in omega (arith, linear, e) }

-- a tuple that is in front of both planes
pub record IsWay (s : ℤ) (t r : Tri) (y : Spot) : Type 0 where
  pub here : pos 0 <ℤ value_at (turned_to s t) y
  pub there : pos 0 <ℤ value_at (turned_to s r) y

-- what is seen beside t, on the side of s
pub record IsSeen (ts : List Tri) (t : Tri) (s : ℤ) (counts : List ℤ) : Type 0 where
  pub at : Spot
  pub inside : is_inside (face_of t) at ≡ true
  pub way : ℤ
  pub slope : way *ℤ along (support_of t) (main_axis (support_of t)) ≢ pos 0
  pub up : pos 0 <ℤ (way *ℤ along (turned_to s t) (main_axis (support_of t)))
  pub bound : ℕ
  pub sees : Sees ts (main_axis (support_of t)) at way bound counts

module _ (ts : List Tri) (balanced : AreBalanced ts) where
  module _ (i j : ℕ) (t r : Tri) (u v w z : Corner) (b : AreBeside ts i j t r u v w z) (x : Spot) (mid : IsMiddle u v x) where
    f : Frame t u v w
    f = frame t b.full u v w b.edge

    abbrev n : Plane
    n = support_of t

    -- the support plane, by the corners from the edge on
    pub n_is : n ≡ support_of (made u v w)
    n_is = support_is t u v w b.edge

    n_at_u : value_at n (spot_of_corner u) ≡ pos 0
    n_at_u = ap (λ (g : Plane). value_at g (spot_of_corner u)) n_is ∙ zero_at_first u v w

    n_at_v : value_at n (spot_of_corner v) ≡ pos 0
    n_at_v = ap (λ (g : Plane). value_at g (spot_of_corner v)) n_is ∙ zero_at_second u v w

    -- it is 0 at the third corner
    pub n_at_w : value_at n (spot_of_corner w) ≡ pos 0
    n_at_w = ap (λ (g : Plane). value_at g (spot_of_corner w)) n_is ∙ zero_at_third u v w

    n_at_x : value_at n x ≡ pos 0
    n_at_x = let e = mid.value n in let p = n_at_u in let q = n_at_v in omega (arith, linear, e, p, q)

    -- ---- x lies on t, and on no other triangle but r
    x_on_t : is_in_closed (face_of t) x ≡ true
    unfolding face_of
    x_on_t =
        closed_on (face_of t) x (positive_in mid.weight) n_at_x ∙ f.closed x
        (let e = mid.value f.from_u in let l = f.u_low in let o = f.u_at_v in omega (arith, linear, e, l, o))
        (let e = mid.value f.from_v in let l = f.v_low in let o = f.v_at_u in omega (arith, linear, e, l, o))
        (let e = mid.value f.from_w in let o = f.w_at_u in let p = f.w_at_v in omega (arith, linear, e, o, p))

    -- a plane that is 0 at the other two corners is 0 at a corner that isn't c
    zero_or : (g : Plane) (c p q y : Corner) → value_at g (spot_of_corner p) ≡ pos 0 → value_at g (spot_of_corner q) ≡ pos 0 →
        (y ≡ c) ⊎ ((y ≡ p) ⊎ (y ≡ q)) → (y ≡ c) ⊎ (value_at g (spot_of_corner y) ≡ pos 0)
    zero_or g c p q y zp zq (inl e) = inl e
    zero_or g c p q y zp zq (inr (inl e)) = inr (ap (λ (a : Corner). value_at g (spot_of_corner a)) e ∙ zp)
    zero_or g c p q y zp zq (inr (inr e)) = inr (ap (λ (a : Corner). value_at g (spot_of_corner a)) e ∙ zq)

    turn_three : {A B C : Type 0} → A ⊎ (B ⊎ C) → B ⊎ (A ⊎ C)
    turn_three (inl a) = inr (inl a)
    turn_three (inr (inl b)) = inl b
    turn_three (inr (inr c)) = inr (inr c)

    -- one of two common corners between which x lies is c, where g isn't 0
    one_is : (s : Tri) (c : Corner) (g : Plane) → value_at g x <ℤ pos 0 → (common : IsInCommon t s x) →
        (common.from ≡ c) ⊎ (value_at g (spot_of_corner common.from) ≡ pos 0) →
        (common.to ≡ c) ⊎ (value_at g (spot_of_corner common.to) ≡ pos 0) → HasCorner s c
    one_is s c g l m (inl e) q = subst (λ (y : Corner). HasCorner s y) e m.common_from.second
    one_is s c g l m (inr e) (inl q) = subst (λ (y : Corner). HasCorner s y) q m.common_to.second
    one_is s c g l m (inr e) (inr q) =
        let o = m.on in
        let h = sym (value_scaled o.factor g x) ∙ ap (value_at g) o.sum ∙ combination_value g o.of_u o.of_v (spot_of_corner m.from) (spot_of_corner m.to) in
        let a = zero_scaled o.of_u (value_at g (spot_of_corner m.from)) e in
        let d = zero_scaled o.of_v (value_at g (spot_of_corner m.to)) q in
        let p = mul_pos_neg o.positive l in absurd (omega (arith, linear, h, a, d, p))

    x_off_others : (k : ℕ) (s : Tri) → k ≢ i → k ≢ j → slice_get ts k ≡ Some s → is_flat s ≡ false → is_in_closed (face_of s) x ≡ false
    x_off_others k s ni nj at nf =
        false_from_ne_true (is_in_closed (face_of s) x)
        (λ e. let m = (b.alone.conforms k t s ni b.here at).common b.full nf x x_on_t e in
        b.only k s ni nj at nf (has_u m) (has_v m))
      where
        has_u : IsInCommon t s x → HasCorner s u
        has_u m =
            one_is s u f.from_u (let e = mid.value f.from_u in let l = f.u_low in let o = f.u_at_v in omega (arith, linear, e, l, o)) m
            (zero_or f.from_u u v w m.from f.u_at_v f.u_at_w (corner_of_turned t u v w m.from b.edge m.common_from.first))
            (zero_or f.from_u u v w m.to f.u_at_v f.u_at_w (corner_of_turned t u v w m.to b.edge m.common_to.first))

        has_v : IsInCommon t s x → HasCorner s v
        has_v m =
            one_is s v f.from_v (let e = mid.value f.from_v in let l = f.v_low in let o = f.v_at_u in omega (arith, linear, e, l, o)) m
            (zero_or f.from_v v u w m.from f.v_at_u f.v_at_w (turn_three (corner_of_turned t u v w m.from b.edge m.common_from.first)))
            (zero_or f.from_v v u w m.to f.v_at_u f.v_at_w (turn_three (corner_of_turned t u v w m.to b.edge m.common_to.first)))

    -- ---- inside t, close to x
    abbrev q : ℕ → Spot
    q m = close x (spot_of_corner w) m

    q_weight : (m : ℕ) → 1 ≤ m → pos 0 <ℤ (q m).w
    q_weight m l =
        let p : pos 0 <ℤ pos m = omega (arith, ints, l) in let y = pos_mul p mid.weight in
        let e : pos 0 <ℤ (pos m *ℤ x.w +ℤ pos 1) = omega (arith, linear, y) in e

    n_at_q : (m : ℕ) → value_at n (q m) ≡ pos 0
    n_at_q m =
        let e = value_close n x (spot_of_corner w) m in let o = zero_times (value_at n x) (pos m) n_at_x in let p = n_at_w in
        omega (arith, linear, e, o, p)

    -- these points are inside t
    pub q_inside : (m : ℕ) → 1 ≤ m → is_inside (face_of t) (q m) ≡ true
    unfolding face_of
    q_inside m l =
        let p : pos 0 <ℤ pos m = omega (arith, ints, l) in
        inside_on (face_of t) (q m) (positive_in (q_weight m l)) (n_at_q m) ∙ f.within (q m)
        (let c = value_close f.from_u x (spot_of_corner w) m in let e = mid.value f.from_u in let a = f.u_low in let o = f.u_at_v in
        let h = f.u_at_w in let g : value_at f.from_u x <ℤ pos 0 = omega (arith, linear, e, a, o) in let d = mul_neg_pos g p in
        omega (arith, linear, c, h, d))
        (let c = value_close f.from_v x (spot_of_corner w) m in let e = mid.value f.from_v in let a = f.v_low in let o = f.v_at_u in
        let h = f.v_at_w in let g : value_at f.from_v x <ℤ pos 0 = omega (arith, linear, e, a, o) in let d = mul_neg_pos g p in
        omega (arith, linear, c, h, d))
        (let c = value_close f.from_w x (spot_of_corner w) m in let e = mid.value f.from_w in let a = f.w_at_u in let o = f.w_at_v in
        let h = f.w_low in let g : value_at f.from_w x ≡ pos 0 = omega (arith, linear, e, a, o) in
        let d = zero_times (value_at f.from_w x) (pos m) g in omega (arith, linear, c, h, d))

    -- ---- how far the third corner of r is in front
    -- as far as that of t is in front of r
    pub depth : value_at n (spot_of_corner z) ≡ value_at (support_of r) (spot_of_corner w)
    depth =
        ap (λ (g : Plane). value_at g (spot_of_corner z)) n_is ∙ same_depth u v w z
        ∙ sym (ap (λ (g : Plane). value_at g (spot_of_corner w)) (support_is r v u z b.back))

    -- if it isn't in front, no point of r is
    module _ (s : ℤ) where
      abbrev h : Plane
      h = turned_to s t

      h_value : (y : Spot) → value_at h y ≡ s *ℤ value_at n y
      h_value y = value_times s n y

      h_zero : (y : Spot) → value_at n y ≡ pos 0 → value_at h y ≡ pos 0
      h_zero y e = h_value y ∙ zero_scaled s (value_at n y) e

      r_is_low : value_at h (spot_of_corner z) ≤ℤ pos 0 → (y : Spot) → is_in_closed (face_of r) y ≡ true → value_at h y ≤ℤ pos 0
      r_is_low l y e =
          let o = value-opposite h y in
          let a = above_corners r (opposite h) y b.full_there (corner r.a (inl refl)) (corner r.b (inr (inl refl))) (corner r.c (inr (inr refl))) e in
          omega (arith, linear, o, a)
        where
          at_least : (c d : Corner) → c ≡ d → value_at h (spot_of_corner d) ≤ℤ pos 0 → pos 0 ≤ℤ value_at (opposite h) (spot_of_corner c)
          at_least c d e k =
              let o = value-opposite h (spot_of_corner c) in let p = ap (λ (a : Corner). value_at h (spot_of_corner a)) e in
              omega (arith, linear, o, p, k)

          corner : (c : Corner) → HasCorner r c → pos 0 ≤ℤ value_at (opposite h) (spot_of_corner c)
          corner c has =
              ⊎_elim (λ p. at_least c v p (let k = h_zero (spot_of_corner v) n_at_v in omega (arith, linear, k)))
              (λ p. ⊎_elim (λ p. at_least c u p (let k = h_zero (spot_of_corner u) n_at_u in omega (arith, linear, k)))
              (λ p. at_least c z p l) p) (corner_of_turned r v u z c b.back has)

      -- ---- the way from beside t to close to x
      module _ (y : Spot) (up : pos 0 <ℤ value_at h y) (up_there : pos 0 <ℤ value_at (turned_to s r) y) (counts : List ℤ) (seen : IsSeen ts t s counts) where
        abbrev to : ℕ → Spot
        to m = close x y m

        h_at_to : (m : ℕ) → pos 0 <ℤ value_at h (to m)
        h_at_to m =
            let e = value_close h x y m in let o = zero_times (value_at h x) (pos m) (h_zero x n_at_x) in omega (arith, linear, e, o, up)

        r_at_x : value_at (turned_to s r) x ≡ pos 0
        r_at_x =
            let g = support_of r in let a = support_is r v u z b.back in
            let e = mid.value g in let p = ap (λ (g : Plane). value_at g (spot_of_corner v)) a ∙ zero_at_first v u z in
            let q = ap (λ (g : Plane). value_at g (spot_of_corner u)) a ∙ zero_at_second v u z in
            let o : value_at g x ≡ pos 0 = omega (arith, linear, e, p, q) in
            value_times s g x ∙ zero_scaled s (value_at g x) o

        own_is_kept : IsKeptOff h q to (face_of t)
        unfolding face_of
        own_is_kept = by_own (λ p e. let k = h_zero p (closed_parts (face_of t) p e).1 in omega (arith, linear, k))

        r_is_kept : IsKeptOff h q to (face_of r)
        unfolding face_of
        r_is_kept = by_lt_z (pos 0) (value_at h (spot_of_corner z)) (λ l. by_other (turned_to s r) low (apart l)) (λ l. by_own (r_is_low l))
          where
            low : (p : Spot) → is_in_closed (face_of r) p ≡ true → value_at (turned_to s r) p ≤ℤ pos 0
            low p e =
                let k = value_times s (support_of r) p in let o = zero_scaled s (value_at (support_of r) p) (closed_parts (face_of r) p e).1 in
                omega (arith, linear, k, o)

            apart : pos 0 <ℤ value_at h (spot_of_corner z) → Eventually (λ m. (pos 0 <ℤ value_at (turned_to s r) (q m)) × (pos 0 <ℤ value_at (turned_to s r) (to m)))
            apart l =
                record {
                  from = 0;
                  holds = λ m _.
                      let g = turned_to s r in let o = zero_times (value_at g x) (pos m) r_at_x in
                      let c = value_close g x (spot_of_corner w) m in let d = value_close g x y m in
                      let e = value_times s (support_of r) (spot_of_corner w) in let k = h_value (spot_of_corner z) in
                      let a = ap (λ (p : ℤ). s *ℤ p) depth in
                      (omega (arith, linear, o, c, e, k, a, l), omega (arith, linear, o, d, up_there));
                }

        other_is_kept : (k : ℕ) (p : Tri) → k ≢ i → k ≢ j → slice_get ts k ≡ Some p → is_flat p ≡ false → IsKeptOff h q to (face_of p)
        other_is_kept k p ni nj at nf =
            let g = missed_face_has_separating_edge (face_of p) x x mid.weight mid.weight
            (single_point_is_missed (face_of p) x mid.weight (x_off_others k p ni nj at nf)) in
            by_other g.plane g.low (eventually_both (stays_positive g.plane x (spot_of_corner w) g.near) (stays_positive g.plane x y g.near))

        each_is_kept : (k : ℕ) (p : Tri) → slice_get ts k ≡ Some p → is_flat p ≡ false → IsKeptOff h q to (face_of p)
        each_is_kept k p at nf =
            ⊎_elim (λ e. subst (λ (s : Tri). IsKeptOff h q to (face_of s)) (same_t e) own_is_kept)
            (λ ni. ⊎_elim (λ e. subst (λ (s : Tri). IsKeptOff h q to (face_of s)) (same_r e) r_is_kept) (λ nj. other_is_kept k p ni nj at nf) (cases_eq k j))
            (cases_eq k i)
          where
            same_t : k ≡ i → t ≡ p
            same_t e = let g = ap (slice_get ts) e in let o = b.here in cc

            same_r : k ≡ j → r ≡ p
            same_r e = let g = ap (slice_get ts) e in let o = b.there in cc

        -- what is seen beside t is seen there
        pub seen_close_to_edge : Eventually (λ m. Eventually (λ l. AreClear (faces_of ts) (offset_by (to m) (pos l)) → (a : Axis) →
            vector_at a ts (offset_by (to m) (pos l)) ≡ counts))
        seen_close_to_edge =
            close_points_see ts balanced i t b.here b.alone b.full seen.at seen.inside (main_axis n) seen.way seen.slope seen.bound counts seen.sees q to
            q_inside q_weight (weight_close x y mid.weight) h (λ m. h_zero (q m) (n_at_q m)) seen.up
            (record { from = 0; holds = λ m l. h_at_to m }) (faces_each (IsKeptOff h q to) ts each_is_kept)
