-- How the values of a plane change along the line of another one at a level.
use Rattle.std.proofs.Common.{◌≡◌, ◌≢◌, sym, ap, ◌∙◌, arith, ℤ, pos, negsuc, ◌+ℤ◌, ◌-ℤ◌, ◌*ℤ◌, neg_ℤ, ◌<ℤ◌, true, ◌&&◌, [], ◌∷◌}
use Rattle.std.proofs.lemmas.Int.{ints}
use Rattle.std.proofs.lemmas.Bool.{and_parts}
use Rattle.ember_algebra.specs.Sign.{sgn, is_zero, is_positive}
use Rattle.ember_algebra.proofs.Laws.{linear, from_one, from_two}
use Rattle.ember_algebra.proofs.Ring.{Expr, num, neg, ◌⊕◌, ◌⊖◌, ◌⊗◌, ◌≈◌, solve, cancels}
use Rattle.ember_algebra.proofs.Vectors.{scalar, tuple, identity, TupleE, detE, valueE}
use Rattle.ember_algebra.proofs.Order.{by_sign, pos_mul, square_nonneg, square_pos, cancel_eq}
use Rattle.ember_algebra.proofs.Numbers.{twice_positive}
use Rattle.ember_model.specs.declared.plane.Plane.{Plane}
use Rattle.ember_model.specs.declared.point.Spot.{Spot}
use Rattle.ember_model.specs.Planes.{value_at}
use Rattle.ember_model.proofs.Tuples.{plane_tuple, spot_tuple, normalE}
use Rattle.ember_model.proofs.SignTests.{sgn_scaled, positive_in, positive_out, zero_out, zero_in}
use Rattle.ember_point.specs.Points.{weight}
use Rattle.ember_slice.specs.Lines.{level, IsFlat, is_on_line, along_line, ahead}
use Rattle.ember_slice.specs.Intervals.{Enters, Leaves}

-- ---- points of the line
pub record OnLine (n : Plane) (at : ℤ) (v : Spot) : Type 0 where
  pub weight : pos 0 <ℤ v.w
  pub support : value_at n v ≡ pos 0
  pub level : value_at (level at) v ≡ pos 0

-- a point that passes the test is on the line
pub on_line_out : (n : Plane) (at : ℤ) (v : Spot) → is_on_line n at v ≡ true → OnLine n at v
on_line_out n at v e =
    let p = and_parts (is_positive v.w) (is_zero (value_at n v) && is_zero (value_at (level at) v)) e in
    let q = and_parts (is_zero (value_at n v)) (is_zero (value_at (level at) v)) p.1 in
    record { weight = positive_out v.w p.0; support = zero_out (value_at n v) q.0; level = zero_out (value_at (level at) v) q.1 }

-- the test answers true of a point on the line
pub on_line_in : (n : Plane) (at : ℤ) (v : Spot) → OnLine n at v → is_on_line n at v ≡ true
on_line_in n at v h = λ i. positive_in h.weight i && (zero_in h.support i && zero_in h.level i)

-- ---- the change of a value
abbrev pub slope : Plane → Plane → ℤ
slope n p = n.a *ℤ p.b -ℤ n.b *ℤ p.a

abbrev pub square : Plane → ℤ
square n = n.a *ℤ n.a +ℤ n.b *ℤ n.b

-- a plane that isn't flat has a positive square
pub square_above : (n : Plane) → (IsFlat n → ⊥) → pos 0 <ℤ square n
square_above n t =
    by_sign n.a
    (λ h. omega (arith, linear, square_pos (above h), square_nonneg n.b))
    (λ e. by_sign n.b (λ h. omega (arith, linear, square_pos (above h), square_nonneg n.a)) (λ f. absurd (t (e, f)))
    (λ h. omega (arith, linear, square_pos (below h), square_nonneg n.a)))
    (λ h. omega (arith, linear, square_pos (below h), square_nonneg n.b))
  where
    above : {a : ℤ} → pos 0 <ℤ a → a ≢ pos 0
    above h e = omega (arith, linear, h, e)

    below : {a : ℤ} → a <ℤ pos 0 → a ≢ pos 0
    below h e = omega (arith, linear, h, e)

abbrev pub levelE : Expr → TupleE
levelE e = record { x = num (pos 0); y = num (pos 0); z = num (pos 2); w = e }

abbrev pub alongE : TupleE → TupleE → Expr
alongE n v = n.x ⊗ v.y ⊖ n.y ⊗ v.x

-- a combination of zeros is 0
pub nothing : (k l m o a b c d : ℤ) → a ≡ pos 0 → b ≡ pos 0 → c ≡ pos 0 → d ≡ pos 0 → k *ℤ a +ℤ l *ℤ b +ℤ m *ℤ c +ℤ o *ℤ d ≡ pos 0
nothing k l m o a b c d ea eb ec ed = rw (ea, eb, ec, ed) (omega (arith, ints))

values_compared_along_line : (n : Plane) (at : ℤ) (p : Plane) (u v : Spot) → OnLine n at u → OnLine n at v →
    (pos 2 *ℤ square n) *ℤ (u.w *ℤ value_at p v -ℤ v.w *ℤ value_at p u) ≡ (pos 2 *ℤ slope n p) *ℤ ahead n v u
values_compared_along_line n at p u v hu hv =
    let m = n.a *ℤ p.a +ℤ n.b *ℤ p.b in
    let k = square n *ℤ p.c -ℤ m *ℤ n.c in
    let e : (pos 2 *ℤ square n) *ℤ (u.w *ℤ value_at p v -ℤ v.w *ℤ value_at p u) -ℤ (pos 2 *ℤ slope n p) *ℤ ahead n v u
    ≡ neg_ℤ (pos 2 *ℤ m *ℤ v.w) *ℤ value_at n u +ℤ (pos 2 *ℤ m *ℤ u.w) *ℤ value_at n v +ℤ neg_ℤ (k *ℤ v.w) *ℤ value_at
    (level at) u +ℤ (k *ℤ u.w) *ℤ value_at (level at) v =
    identity (tuple ∷ scalar ∷ tuple ∷ tuple ∷ tuple ∷ []) (λ n at p u v.
    let s = n.x ⊗ n.x ⊕ n.y ⊗ n.y in let m = n.x ⊗ p.x ⊕ n.y ⊗ p.y in let k = s ⊗ p.z ⊖ m ⊗ n.z in let q = levelE (num (pos 2) ⊗ at ⊕ num (pos 1)) in
    (num (pos 2) ⊗ s) ⊗ (u.w ⊗ valueE p v ⊖ v.w ⊗ valueE p u) ⊖ (num (pos 2) ⊗ (n.x ⊗ p.y ⊖ n.y ⊗ p.x)) ⊗
    (u.w ⊗ alongE n v ⊖ v.w ⊗ alongE n u) ≈ neg (num (pos 2) ⊗ m ⊗ v.w) ⊗ valueE n u ⊕ (num (pos 2) ⊗ m ⊗ u.w) ⊗
    valueE n v ⊕ neg (k ⊗ v.w) ⊗ valueE q u ⊕ (k ⊗ u.w) ⊗ valueE q v) cancels (plane_tuple n) at (plane_tuple p)
    (spot_tuple u) (spot_tuple v) in
    let z = e ∙ nothing _ _ _ _ _ _ _ _ hu.support hv.support hu.level hv.level in
    omega (arith, linear, z)

-- ---- where the plane crosses the line, and where it doesn't
weight_is : (n : Plane) (at : ℤ) (p : Plane) → weight n (level at) p ≡ negsuc 1 *ℤ slope n p
weight_is n at p =
    identity (tuple ∷ tuple ∷ []) (λ n p. detE (normalE n) (normalE (levelE (num (pos 0)))) (normalE p) ≈ num (negsuc 1)
    ⊗ (n.x ⊗ p.y ⊖ n.y ⊗ p.x)) cancels (plane_tuple n) (plane_tuple p)

-- a plane that is parallel to the line doesn't change along it
pub parallel_slope : (n : Plane) (at : ℤ) (p : Plane) → weight n (level at) p ≡ pos 0 → slope n p ≡ pos 0
parallel_slope n at p e = omega (arith, linear, sym (weight_is n at p) ∙ e)

-- a plane that crosses the line changes along it
pub crossing_slope : (n : Plane) (at : ℤ) (p : Plane) → (weight n (level at) p ≡ pos 0 → ⊥) → slope n p ≡ pos 0 → ⊥
crossing_slope n at p f e = f (weight_is n at p ∙ ap (λ z. negsuc 1 *ℤ z) e)

across_slope : (n : Plane) → slope n (record { a = pos 0 -ℤ n.b; b = n.a; c = pos 0; d = pos 0 }) ≡ square n
across_slope n = solve 2 (λ a b. a ⊗ a ⊖ b ⊗ (num (pos 0) ⊖ b) ≈ a ⊗ a ⊕ b ⊗ b) cancels n.a n.b

-- the vertical plane at right angles to the line crosses it
pub across_crosses : (n : Plane) (at : ℤ) → (IsFlat n → ⊥) → weight n (level at) (record { a = pos 0 -ℤ n.b; b = n.a; c = pos 0; d = pos 0 }) ≡ pos 0 → ⊥
across_crosses n at t e =
    let s = parallel_slope n at (record { a = pos 0 -ℤ n.b; b = n.a; c = pos 0; d = pos 0 }) e in
    omega (arith, linear, square_above n t, across_slope n, s)

-- how far v is ahead of u is the opposite of how far u is ahead of v
pub ahead_turned : (n : Plane) (u v : Spot) → ahead n v u ≡ neg_ℤ (ahead n u v)
ahead_turned n u v =
    solve 4 (λ a b c d. a ⊗ b ⊖ c ⊗ d ≈ neg (c ⊗ d ⊖ a ⊗ b)) cancels u.w (along_line n v) v.w (along_line n u)

same_products : (k w x y z s a : ℤ) → k ≢ pos 0 → k *ℤ (w *ℤ x -ℤ y *ℤ z) ≡ (pos 2 *ℤ s) *ℤ a → s ≡ pos 0 → w *ℤ x ≡ y *ℤ z
same_products k w x y z s a h e f =
    cancel_eq {c = k} h (from_two (pos 1) (pos 2 *ℤ a) e f
    (solve 7 (λ k w x y z s a. k ⊗ (w ⊗ x) ⊖ k ⊗ (y ⊗ z) ≈ num (pos 1) ⊗ (k ⊗ (w ⊗ x ⊖ y ⊗ z) ⊖ (num (pos 2) ⊗ s) ⊗ a)
    ⊕ (num (pos 2) ⊗ a) ⊗ (s ⊖ num (pos 0))) cancels k w x y z s a))

module _ (n : Plane) (at : ℤ) (p : Plane) (m : Spot) (t : IsFlat n → ⊥) (hm : OnLine n at m) where
  twice_square : pos 0 <ℤ (pos 2 *ℤ square n)
  twice_square = twice_positive (square_above n t)

  -- along a line that a plane is parallel to, the plane has one sign
  pub parallel_sign : slope n p ≡ pos 0 → (v : Spot) → OnLine n at v → sgn (value_at p v) ≡ sgn (value_at p m)
  parallel_sign e v hv =
      let q = same_products (pos 2 *ℤ square n) m.w (value_at p v) v.w (value_at p m) (slope n p) (ahead n v m)
      (λ z. omega (arith, linear, twice_square, z)) (values_compared_along_line n at p m v hm hv) e in
      sym (sgn_scaled (value_at p v) hm.weight) ∙ ap sgn q ∙ sgn_scaled (value_at p m) hv.weight

  module _ (e : value_at p m ≡ pos 0) where
    grows : (v : Spot) → OnLine n at v → ((pos 2 *ℤ square n) *ℤ m.w) *ℤ value_at p v ≡ (pos 2 *ℤ slope n p) *ℤ ahead n v m
    grows v hv =
        from_two (pos 1) ((pos 2 *ℤ square n) *ℤ v.w) (values_compared_along_line n at p m v hm hv) e
        (solve 7 (λ k w x y z s a. (k ⊗ w) ⊗ x ⊖ s ⊗ a ≈ num (pos 1) ⊗ (k ⊗ (w ⊗ x ⊖ y ⊗ z) ⊖ s ⊗ a) ⊕ (k ⊗ y) ⊗
        (z ⊖ num (pos 0))) cancels (pos 2 *ℤ square n) m.w (value_at p v) v.w (value_at p m) (pos 2 *ℤ slope n p)
        (ahead n v m))

    scaled_value : (v : Spot) → sgn (((pos 2 *ℤ square n) *ℤ m.w) *ℤ value_at p v) ≡ sgn (value_at p v)
    scaled_value v = sgn_scaled (value_at p v) (pos_mul twice_square hm.weight)

    pub leaves_at : pos 0 <ℤ slope n p → Leaves n at p m
    leaves_at h =
        record {
          on = on_line_in n at m hm;
          signs = λ v f. sym (scaled_value v) ∙ ap sgn (grows v (on_line_out n at v f)) ∙ sgn_scaled (ahead n v m) (twice_positive h);
        }

    pub enters_at : slope n p <ℤ pos 0 → Enters n at p m
    enters_at h =
        record {
          on = on_line_in n at m hm;
          signs = λ v f. sym (scaled_value v) ∙ ap sgn
              (grows v (on_line_out n at v f) ∙ both_turned (pos 2 *ℤ slope n p) (ahead n v m) (ahead n m v)
              (ahead_turned n m v)) ∙ sgn_scaled (ahead n m v) (turned_above h);
        }
      where
        both_turned : (s a b : ℤ) → a ≡ neg_ℤ b → s *ℤ a ≡ neg_ℤ s *ℤ b
        both_turned s a b q = from_one s q (solve 3 (λ s a b. s ⊗ a ⊖ neg s ⊗ b ≈ s ⊗ (a ⊖ neg b)) cancels s a b)

        turned_above : {s : ℤ} → s <ℤ pos 0 → pos 0 <ℤ neg_ℤ (pos 2 *ℤ s)
        turned_above h = omega (arith, linear, h)
