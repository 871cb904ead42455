-- A tuple in front of two neighbours.
use Rattle.std.proofs.Common.{◌≡◌, ◌≢◌, ⊎_elim, sym, ap, subst, ◌∙◌, arith, ℕ, ◌+◌, true, List, ℤ, pos, negsuc, ◌-ℤ◌, ◌*ℤ◌, ◌<ℤ◌}
use Rattle.ember_algebra.specs.Large.{Eventually}
use Rattle.ember_algebra.specs.Sign.{sign}
use Rattle.ember_algebra.proofs.Laws.{linear}
use Rattle.ember_algebra.proofs.Large.{eventually_both, eventually_map}
use Rattle.ember_algebra.proofs.Order.{by_sign, pos_mul, mul_neg_neg, square_pos, zero_product, sign_pos, sign_neg}
use Rattle.ember_algebra.proofs.Ring.{◌⊗◌, ◌≈◌, solve, cancels}
use Rattle.ember_model.specs.declared.plane.Plane.{Plane}
use Rattle.ember_model.specs.declared.point.Corner.{Corner}
use Rattle.ember_model.specs.declared.point.Spot.{Spot}
use Rattle.ember_model.specs.declared.point.Axis.{Axis}
use Rattle.ember_model.specs.declared.point.Axis.TheVariants.{X, Y, Z}
use Rattle.ember_model.specs.declared.tri.Tri.{Tri}
use Rattle.ember_model.specs.Planes.{unit, value_at, along, main_axis, support_of, edge_through, opposite}
use Rattle.ember_model.specs.Points.{scaled, moved, plus_s}
use Rattle.ember_model.specs.Faces.{is_in_closed, face_of}
use Rattle.ember_model.specs.Owners.{spot_of_corner}
use Rattle.ember_model.proofs.SignTests.{clash, positive_in, zero_times}
use Rattle.ember_model.proofs.PlaneValues.{value_scaled, value_plus, value_moved, value_times, value-opposite, along_dot}
use Rattle.ember_model.proofs.Hits.{closed_on}
use Rattle.ember_law.proofs.CornerSides.{main_entry}
use Rattle.ember_law.proofs.FlatTriangles.{flat_in}
use Rattle.ember_alone.specs.UniformSides.{AreBalanced}
use Rattle.ember_alone.proofs.CloseTo.{close, value_close, stays_positive, weight_close}
use Rattle.ember_alone.proofs.Frames.{Frame, frame}
use Rattle.ember_alone.proofs.UniformSides.{others_are_off}
use Rattle.ember_alone.proofs.CommonEdges.{made, support_is, zero_at_first, zero_at_second, zero_at_third}
use Rattle.ember_alone.proofs.CommonEdges.{across_x, across_y, across_z, same_slope, edge_back, one_sign, nowhere, value_nowhere, along_times}
use Rattle.ember_alone.proofs.AroundEdges.{AreBeside, turned_to, IsMiddle, IsWay}
use Rattle.ember_alone.proofs.AroundEdges.{n_is, n_at_w, q_inside, depth}

module _ (ts : List Tri) (balanced : AreBalanced ts) (i j : ℕ) (t r : Tri) (u v w z : Corner) (b : AreBeside ts i j t r u v w z)
    (x : Spot) (mid : IsMiddle u v x) where
  abbrev n : Plane
  n = support_of t

  abbrev q : ℕ → Spot
  q m = close x (spot_of_corner w) m

  same_plane_of_t : n ≡ support_of (made u v w)
  same_plane_of_t = n_is ts balanced i j t r u v w z b x mid

  depth_of_z : value_at n (spot_of_corner z) ≡ value_at (support_of r) (spot_of_corner w)
  depth_of_z = depth ts balanced i j t r u v w z b x mid

  -- ---- triangles in one plane
  module _ (level : value_at n (spot_of_corner z) ≡ pos 0) where
    abbrev o : Plane
    o = support_of r

    abbrev k : Axis
    k = main_axis o

    slopes : (a c : Axis) → along n a *ℤ along o c ≡ along n c *ℤ along o a
    slopes =
        let d : value_at (support_of (made u v w)) (spot_of_corner z) ≡ pos 0 = sym (ap (λ (g : Plane). value_at g (spot_of_corner z)) same_plane_of_t) ∙ level in
        subst (λ (g : Plane). (a c : Axis) → along g a *ℤ along o c ≡ along g c *ℤ along o a) (sym same_plane_of_t)
        (subst (λ (h : Plane). (a c : Axis) → along (support_of (made u v w)) a *ℤ along h c ≡ along (support_of (made u v w)) c *ℤ along h a)
        (sym (support_is r v u z b.back))
        (same_slope (support_of (made u v w)) (support_of (made v u z))
        (let e = across_x u v w z in let y = zero_times _ (v.x -ℤ u.x) d in omega (arith, linear, e, y))
        (let e = across_y u v w z in let y = zero_times _ (v.y -ℤ u.y) d in omega (arith, linear, e, y))
        (let e = across_z u v w z in let y = zero_times _ (v.z -ℤ u.z) d in omega (arith, linear, e, y))))

    entry_there : along o k ≢ pos 0
    entry_there = main_entry r b.full_there

    entry_here : along n k ≢ pos 0
    entry_here e = clash (flat_in t (record { a = zero X; b = zero Y; c = zero Z })) b.full
      where
        zero : (a : Axis) → along n a ≡ pos 0
        zero a =
            ⊎_elim (λ p. p) (λ p. absurd (entry_there p)) (zero_product (slopes a k ∙ zero_times (along n k) (along o a) e))

    -- with opposite fronts they would overlap
    g : Frame r v u z
    g = frame r b.full_there v u z b.back

    edge_at_w : value_at g.from_w (spot_of_corner w) ≡ sign (along o k) *ℤ along n k
    edge_at_w =
        ap (λ (h : Plane). value_at h (spot_of_corner w)) g.w_is
        ∙ value_times (sign (along o k)) (edge_through v u (unit k)) (spot_of_corner w)
        ∙ ap (λ (y : ℤ). sign (along o k) *ℤ y) (edge_back u v w (unit k) ∙ sym (along_dot (support_of (made u v w)) k)
        ∙ ap (λ (h : Plane). along h k) (sym same_plane_of_t))

    overlap : (along n k *ℤ along o k) <ℤ pos 0 → ⊥
    unfolding face_of
    overlap l = clash (in_both.holds (in_both.from + 1) (omega arith)) (others_are_off ts balanced i t b.here b.alone b.full j r b.different b.there b.full_there
        (q (in_both.from + 1)) (q_inside ts balanced i j t r u v w z b x mid (in_both.from + 1) (omega arith)))
      where
        low : (sign (along o k) *ℤ along n k) <ℤ pos 0
        low =
            by_sign (along o k)
            (λ p. let e = ap (λ (y : ℤ). y *ℤ along n k) (sign_pos p) in
            by_sign (along n k) (λ c. absurd (let m = pos_mul c p in omega (arith, linear, m, l))) (λ c. absurd (entry_here c)) (λ c. omega (arith, linear, e, c)))
            (λ p. absurd (entry_there p))
            (λ p. let e = ap (λ (y : ℤ). y *ℤ along n k) (sign_neg p) in
            by_sign (along n k) (λ c. omega (arith, linear, e, c)) (λ c. absurd (entry_here c)) (λ c. absurd (let m = mul_neg_neg c p in omega (arith, linear, m, l))))

        o_at_x : value_at o x ≡ pos 0
        o_at_x =
            let a = support_is r v u z b.back in let e = mid.value o in
            let p = ap (λ (g : Plane). value_at g (spot_of_corner v)) a ∙ zero_at_first v u z in
            let q = ap (λ (g : Plane). value_at g (spot_of_corner u)) a ∙ zero_at_second v u z in omega (arith, linear, e, p, q)

        in_both : Eventually (λ m. is_in_closed (face_of r) (q m) ≡ true)
        in_both =
            eventually_map
            (λ m e. closed_on (face_of r) (q m) (positive_in e.0)
            (let c = value_close o x (spot_of_corner w) m in let y = zero_times (value_at o x) (pos m) o_at_x in let d = depth_of_z in
            omega (arith, linear, c, y, d, level))
            ∙ g.closed (q m) (let d = e.1.0 in let a = value-opposite g.from_u (q m) in omega (arith, linear, d, a))
            (let d = e.1.1 in let a = value-opposite g.from_v (q m) in omega (arith, linear, d, a))
            (let c = value_close g.from_w x (spot_of_corner w) m in let h = mid.value g.from_w in let a = g.w_at_u in let d = g.w_at_v in
            let p : value_at g.from_w x ≡ pos 0 = omega (arith, linear, h, a, d) in
            let y = zero_times (value_at g.from_w x) (pos m) p in let f = edge_at_w in omega (arith, linear, c, y, f, low)))
            (eventually_both (weight_close x (spot_of_corner w) mid.weight) (eventually_both
            (stays_positive (opposite g.from_u) x (spot_of_corner w) (let a = value-opposite g.from_u x in let h = mid.value g.from_u in
            let c = g.u_low in let d = g.u_at_v in omega (arith, linear, a, h, c, d)))
            (stays_positive (opposite g.from_v) x (spot_of_corner w) (let a = value-opposite g.from_v x in let h = mid.value g.from_v in
            let c = g.v_low in let d = g.v_at_u in omega (arith, linear, a, h, c, d)))))

    fronts : pos 0 <ℤ (along n k *ℤ along o k)
    fronts =
        by_sign (along n k *ℤ along o k) (λ l. l)
        (λ e. absurd (⊎_elim (λ p. entry_here p) (λ p. entry_there p) (zero_product e))) (λ l. absurd (overlap l))

  -- ---- a way that is in front of both
  -- a tuple that is in front of both
  pub way : (s : ℤ) → s ≢ pos 0 → (y : Spot) × IsWay s t r y
  way s nz = by_sign (s *ℤ value_at n (spot_of_corner z)) sum (λ e. flat (⊎_elim (λ a. absurd (nz a)) (λ a. a) (zero_product e))) difference
    where
      both : Spot
      both = plus_s (spot_of_corner w) (spot_of_corner z)

      here_is : (y : Spot) → value_at (turned_to s t) y ≡ s *ℤ value_at n y
      here_is y = value_times s n y

      there_is : (y : Spot) → value_at (turned_to s r) y ≡ s *ℤ value_at (support_of r) y
      there_is y = value_times s (support_of r) y

      n_at_both : value_at n both ≡ value_at n (spot_of_corner z)
      n_at_both = let e = value_plus n (spot_of_corner w) (spot_of_corner z) in let a = n_at_w ts balanced i j t r u v w z b x mid in omega (arith, linear, e, a)

      o_at_both : value_at (support_of r) both ≡ value_at n (spot_of_corner z)
      o_at_both =
          let e = value_plus (support_of r) (spot_of_corner w) (spot_of_corner z) in let d = depth_of_z in
          let a = ap (λ (g : Plane). value_at g (spot_of_corner z)) (support_is r v u z b.back) ∙ zero_at_third v u z in
          omega (arith, linear, e, d, a)

      sum : pos 0 <ℤ (s *ℤ value_at n (spot_of_corner z)) → (y : Spot) × IsWay s t r y
      sum l =
          let a = here_is both ∙ ap (λ (y : ℤ). s *ℤ y) n_at_both in let c = there_is both ∙ ap (λ (y : ℤ). s *ℤ y) o_at_both in
          (both, record { here = omega (arith, linear, a, l); there = omega (arith, linear, c, l) })

      difference : (s *ℤ value_at n (spot_of_corner z)) <ℤ pos 0 → (y : Spot) × IsWay s t r y
      difference l =
          let y = scaled (negsuc 0) both in
          let a = value_scaled (negsuc 0) (turned_to s t) both in let d = here_is both ∙ ap (λ (y : ℤ). s *ℤ y) n_at_both in
          let c = value_scaled (negsuc 0) (turned_to s r) both in let e = there_is both ∙ ap (λ (y : ℤ). s *ℤ y) o_at_both in
          (scaled (negsuc 0) both, record { here = omega (arith, linear, a, d, l); there = omega (arith, linear, c, e, l) })

      flat : value_at n (spot_of_corner z) ≡ pos 0 → (y : Spot) × IsWay s t r y
      flat e = ⊎_elim (λ l. (moved nowhere k (pos 1), ahead l)) (λ l. (moved nowhere k (negsuc 0), back l)) (one_sign (s *ℤ along n k) (s *ℤ along (support_of r) k) signs)
        where
          k : Axis
          k = main_axis (support_of r)

          signs : pos 0 <ℤ ((s *ℤ along n k) *ℤ (s *ℤ along (support_of r) k))
          signs =
              let p = pos_mul (square_pos nz) (fronts e) in
              let m = solve 3 (λ s a c. (s ⊗ a) ⊗ (s ⊗ c) ≈ (s ⊗ s) ⊗ (a ⊗ c)) cancels s (along n k) (along (support_of r) k) in omega (arith, linear, p, m)

          at_way : (g : Plane) (d : ℤ) → value_at g (moved nowhere k d) ≡ d *ℤ along g k
          at_way g d = let m = value_moved g nowhere k d in let o = value_nowhere g in omega (arith, linear, m, o)

          ahead : (pos 0 <ℤ (s *ℤ along n k)) × (pos 0 <ℤ (s *ℤ along (support_of r) k)) → IsWay s t r (moved nowhere k (pos 1))
          ahead l =
              let p = l.0 in let q = l.1 in let y = moved nowhere k (pos 1) in
              let a = at_way (turned_to s t) (pos 1) in let c = along_times s n k in
              let d = at_way (turned_to s r) (pos 1) in let f = along_times s (support_of r) k in
              record { here = omega (arith, linear, p, a, c); there = omega (arith, linear, q, d, f) }

          back : ((s *ℤ along n k) <ℤ pos 0) × ((s *ℤ along (support_of r) k) <ℤ pos 0) → IsWay s t r (moved nowhere k (negsuc 0))
          back l =
              let p = l.0 in let q = l.1 in
              let a = at_way (turned_to s t) (negsuc 0) in let c = along_times s n k in
              let d = at_way (turned_to s r) (negsuc 0) in let f = along_times s (support_of r) k in
              record { here = omega (arith, linear, p, a, c); there = omega (arith, linear, q, d, f) }
