-- If no corner of a triangle moves by more than a distance, none of its points does.
use Rattle.std.proofs.Common.{◌≡◌, sym, subst, arith, List, [], ◌∷◌, ℕ, ℤ, pos, ◌+ℤ◌, ◌*ℤ◌, ◌≤ℤ◌}
use borrow.Author.Differences.{ints}
use Rattle.std.specs.List.{AllByRecursion}
use Rattle.ember_algebra.specs.Vector.{Vector, plus_v, minus_v, scale_v, dot}
use Rattle.ember_algebra.proofs.Laws.{linear}
use Rattle.ember_algebra.proofs.Order.{nonneg_mul, mul_le, square_nonneg}
use Rattle.ember_algebra.proofs.Ring.{◌⊕◌, ◌⊖◌, ◌⊗◌, ◌≈◌, solve, cancels}
use Rattle.ember_algebra.proofs.Vectors.{scalar, vector, tuple, identity, vector_identity, ◌≈v◌, cancels_v, TupleE, dotE, minusE, plusE, scaleE}
use Rattle.ember_algebra.proofs.Identities.{dot_nonneg}
use Rattle.ember_model.specs.declared.point.Spot.{Spot}
use Rattle.ember_model.proofs.Tuples.{spot_tuple}
use Rattle.ember_model.specs.Points.{displacement}
use Rattle.ember_model.proofs.Displacements.{displacementE}
use Rattle.mesh_written.specs.Closed.{Positions}
use Rattle.mesh_tolerance.specs.Distances.{square, IsWithin}
use Rattle.mesh_tolerance.specs.Moves.{CornersMoveWithin, PointsMoveWithin}

-- ---- a mean of three vectors
abbrev mean : ℤ → ℤ → ℤ → Vector → Vector → Vector → Vector
mean i j k x y z = plus_v (plus_v (scale_v i x) (scale_v j y)) (scale_v k z)

-- the square of a mean is at most the mean of the squares
mean_square : (i j k : ℤ) (x y z : Vector) → pos 0 ≤ℤ i → pos 0 ≤ℤ j → pos 0 ≤ℤ k →
    dot (mean i j k x y z) (mean i j k x y z) ≤ℤ ((i +ℤ j +ℤ k) *ℤ (i *ℤ dot x x +ℤ j *ℤ dot y y +ℤ k *ℤ dot z z))
mean_square i j k x y z pi pj pk =
    let e = identity (scalar ∷ scalar ∷ scalar ∷ vector ∷ vector ∷ vector ∷ [])
    (λ i j k x y z. let m = plusE (plusE (scaleE i x) (scaleE j y)) (scaleE k z) in
    (i ⊕ j ⊕ k) ⊗ (i ⊗ dotE x x ⊕ j ⊗ dotE y y ⊕ k ⊗ dotE z z) ⊖ dotE m m ≈ i ⊗ j ⊗ dotE (minusE x y) (minusE x y) ⊕
    j ⊗ k ⊗ dotE (minusE y z) (minusE y z) ⊕ k ⊗ i ⊗ dotE (minusE z x) (minusE z x)) cancels i j k x y z in
    let f = nonneg_mul (nonneg_mul pi pj) (dot_nonneg (minus_v x y)) in
    let g = nonneg_mul (nonneg_mul pj pk) (dot_nonneg (minus_v y z)) in
    let h = nonneg_mul (nonneg_mul pk pi) (dot_nonneg (minus_v z x)) in
    omega (arith, linear, e, f, g, h)

-- so a bound of the squares is one of the mean's
bounded_mean : (m l i j k : ℤ) (x y z : Vector) → pos 0 ≤ℤ i → pos 0 ≤ℤ j → pos 0 ≤ℤ k → (square m *ℤ dot x x) ≤ℤ l →
    (square m *ℤ dot y y) ≤ℤ l → (square m *ℤ dot z z) ≤ℤ l →
    (square m *ℤ dot (mean i j k x y z) (mean i j k x y z)) ≤ℤ (square (i +ℤ j +ℤ k) *ℤ l)
bounded_mean m l i j k x y z pi pj pk bx by bz =
    let s : pos 0 ≤ℤ (i +ℤ j +ℤ k) = omega (arith, linear, pi, pj, pk) in
    let a = mul_le (square_nonneg m) (mean_square i j k x y z pi pj pk) in
    let f = mul_le (nonneg_mul s pi) bx in let g = mul_le (nonneg_mul s pj) by in let h = mul_le (nonneg_mul s pk) bz in
    let e = solve 8 (λ m s i j k x y z. (m ⊗ m) ⊗ (s ⊗ (i ⊗ x ⊕ j ⊗ y ⊕ k ⊗ z)) ≈ (s ⊗ i) ⊗ (m ⊗ m ⊗ x) ⊕ (s ⊗ j) ⊗
    (m ⊗ m ⊗ y) ⊕ (s ⊗ k) ⊗ (m ⊗ m ⊗ z)) cancels m (i +ℤ j +ℤ k) i j k (dot x x) (dot y y) (dot z z) in
    let t = solve 4 (λ i j k l. ((i ⊕ j ⊕ k) ⊗ i) ⊗ l ⊕ ((i ⊕ j ⊕ k) ⊗ j) ⊗ l ⊕ ((i ⊕ j ⊕ k) ⊗ k) ⊗ l ≈
    ((i ⊕ j ⊕ k) ⊗ (i ⊕ j ⊕ k)) ⊗ l) cancels i j k l in
    omega (arith, linear, a, f, g, h, e, t)

-- and of a multiple
bounded_multiple : (m p l : ℤ) (k : Vector) → (square m *ℤ dot k k) ≤ℤ square l →
    (square m *ℤ dot (scale_v p k) (scale_v p k)) ≤ℤ square (p *ℤ l)
bounded_multiple m p l k b =
    let h = mul_le (square_nonneg p) b in
    let e = identity (scalar ∷ scalar ∷ vector ∷ []) (λ m p k. m ⊗ m ⊗ dotE (scaleE p k) (scaleE p k) ≈ p ⊗ p ⊗
    (m ⊗ m ⊗ dotE k k)) cancels m p k in
    let f = solve 2 (λ p l. p ⊗ p ⊗ (l ⊗ l) ≈ (p ⊗ l) ⊗ (p ⊗ l)) cancels p l in
    omega (arith, linear, h, e, f)

-- ---- a mean of three moving corners
module _ (i j k : ℤ) (u v w u' v' w' : Spot) where
  abbrev of_u : ℤ
  of_u = (v.w *ℤ w.w) *ℤ (v'.w *ℤ w'.w)

  abbrev of_v : ℤ
  of_v = (w.w *ℤ u.w) *ℤ (w'.w *ℤ u'.w)

  abbrev of_w : ℤ
  of_w = (u.w *ℤ v.w) *ℤ (u'.w *ℤ v'.w)

  abbrev move : Vector
  move = mean i j k (scale_v of_u (displacement u u')) (scale_v of_v (displacement v v')) (scale_v of_w (displacement w w'))

  -- the point of which mean_of makes a point of a triangle
  abbrev point : Spot → Spot → Spot → Spot
  point u v w =
      let l = i *ℤ (v.w *ℤ w.w) in let m = j *ℤ (w.w *ℤ u.w) in let n = k *ℤ (u.w *ℤ v.w) in
      record {
        x = l *ℤ u.x +ℤ m *ℤ v.x +ℤ n *ℤ w.x;
        y = l *ℤ u.y +ℤ m *ℤ v.y +ℤ n *ℤ w.y;
        z = l *ℤ u.z +ℤ m *ℤ v.z +ℤ n *ℤ w.z;
        w = l *ℤ u.w +ℤ m *ℤ v.w +ℤ n *ℤ w.w;
      }

  point_moves : displacement (point u v w) (point u' v' w') ≡ scale_v (i +ℤ j +ℤ k) move
  point_moves =
      vector_identity (scalar ∷ scalar ∷ scalar ∷ tuple ∷ tuple ∷ tuple ∷ tuple ∷ tuple ∷ tuple ∷ [])
      (λ i j k u v w u' v' w'. let point : TupleE → TupleE → TupleE → TupleE = λ u v w. let a = i ⊗ (v.w ⊗ w.w) in let b = j ⊗ (w.w ⊗ u.w) in
      let c = k ⊗ (u.w ⊗ v.w) in record {
        x = a ⊗ u.x ⊕ b ⊗ v.x ⊕ c ⊗ w.x;
        y = a ⊗ u.y ⊕ b ⊗ v.y ⊕ c ⊗ w.y;
        z = a ⊗ u.z ⊕ b ⊗ v.z ⊕ c ⊗ w.z;
        w = a ⊗ u.w ⊕ b ⊗ v.w ⊕ c ⊗ w.w;
      } in displacementE (point u v w) (point u' v' w') ≈v scaleE (i ⊕ j ⊕ k)
      (plusE (plusE (scaleE i (scaleE ((v.w ⊗ w.w) ⊗ (v'.w ⊗ w'.w)) (displacementE u u')))
      (scaleE j (scaleE ((w.w ⊗ u.w) ⊗ (w'.w ⊗ u'.w)) (displacementE v v'))))
      (scaleE k (scaleE ((u.w ⊗ v.w) ⊗ (u'.w ⊗ v'.w)) (displacementE w w'))))) cancels_v i j k (spot_tuple u)
      (spot_tuple v) (spot_tuple w) (spot_tuple u') (spot_tuple v') (spot_tuple w')

  abbrev whole : ℤ
  whole = (u.w *ℤ v.w *ℤ w.w) *ℤ (u'.w *ℤ v'.w *ℤ w'.w)

  module _ (size unit : ℕ) (pi : pos 0 ≤ℤ i) (pj : pos 0 ≤ℤ j) (pk : pos 0 ≤ℤ k) (near_u : IsWithin size unit u u')
      (near_v : IsWithin size unit v v') (near_w : IsWithin size unit w w') where
    bound_u : (square (pos unit) *ℤ dot (scale_v of_u (displacement u u')) (scale_v of_u (displacement u u'))) ≤ℤ
        square (whole *ℤ pos size)
    bound_u =
        subst (λ (z : ℤ). (square (pos unit) *ℤ dot (scale_v of_u (displacement u u'))
        (scale_v of_u (displacement u u'))) ≤ℤ square z) (solve 7 (λ a b c d e f s. (b ⊗ c ⊗ (e ⊗ f)) ⊗ (a ⊗ d ⊗ s) ≈
        ((a ⊗ b ⊗ c) ⊗ (d ⊗ e ⊗ f)) ⊗ s) cancels u.w v.w w.w u'.w v'.w w'.w (pos size))
        (bounded_multiple (pos unit) of_u (u.w *ℤ u'.w *ℤ pos size) (displacement u u') near_u.within)

    bound_v : (square (pos unit) *ℤ dot (scale_v of_v (displacement v v')) (scale_v of_v (displacement v v'))) ≤ℤ
        square (whole *ℤ pos size)
    bound_v =
        subst (λ (z : ℤ). (square (pos unit) *ℤ dot (scale_v of_v (displacement v v'))
        (scale_v of_v (displacement v v'))) ≤ℤ square z) (solve 7 (λ a b c d e f s. (c ⊗ a ⊗ (f ⊗ d)) ⊗ (b ⊗ e ⊗ s) ≈
        ((a ⊗ b ⊗ c) ⊗ (d ⊗ e ⊗ f)) ⊗ s) cancels u.w v.w w.w u'.w v'.w w'.w (pos size))
        (bounded_multiple (pos unit) of_v (v.w *ℤ v'.w *ℤ pos size) (displacement v v') near_v.within)

    bound_w : (square (pos unit) *ℤ dot (scale_v of_w (displacement w w')) (scale_v of_w (displacement w w'))) ≤ℤ
        square (whole *ℤ pos size)
    bound_w =
        subst (λ (z : ℤ). (square (pos unit) *ℤ dot (scale_v of_w (displacement w w'))
        (scale_v of_w (displacement w w'))) ≤ℤ square z) (solve 7 (λ a b c d e f s. (a ⊗ b ⊗ (d ⊗ e)) ⊗ (c ⊗ f ⊗ s) ≈
        ((a ⊗ b ⊗ c) ⊗ (d ⊗ e ⊗ f)) ⊗ s) cancels u.w v.w w.w u'.w v'.w w'.w (pos size))
        (bounded_multiple (pos unit) of_w (w.w *ℤ w'.w *ℤ pos size) (displacement w w') near_w.within)

    -- the two weights of the point
    weights_are : (point u v w).w *ℤ (point u' v' w').w *ℤ pos size ≡ square (i +ℤ j +ℤ k) *ℤ (whole *ℤ pos size)
    weights_are =
        solve 10 (λ i j k a b c d e f s. (i ⊗ (b ⊗ c) ⊗ a ⊕ j ⊗ (c ⊗ a) ⊗ b ⊕ k ⊗ (a ⊗ b) ⊗ c) ⊗
        (i ⊗ (e ⊗ f) ⊗ d ⊕ j ⊗ (f ⊗ d) ⊗ e ⊕ k ⊗ (d ⊗ e) ⊗ f) ⊗ s ≈ ((i ⊕ j ⊕ k) ⊗ (i ⊕ j ⊕ k)) ⊗
        (((a ⊗ b ⊗ c) ⊗ (d ⊗ e ⊗ f)) ⊗ s)) cancels i j k u.w v.w w.w u'.w v'.w w'.w (pos size)

    pub mean_is_within : IsWithin size unit (point u v w) (point u' v' w')
    mean_is_within = record {
      within =
          let s = i +ℤ j +ℤ k in let d = displacement (point u v w) (point u' v' w') in
          let b = bounded_mean (pos unit) (square (whole *ℤ pos size)) i j k (scale_v of_u (displacement u u'))
          (scale_v of_v (displacement v v')) (scale_v of_w (displacement w w')) pi pj pk bound_u bound_v bound_w in
          let m = bounded_multiple_by (pos unit) s (square (whole *ℤ pos size)) move b in
          subst (λ (z : ℤ). (square (pos unit) *ℤ dot d d) ≤ℤ square z) (sym weights_are)
          (subst (λ (e : Vector). (square (pos unit) *ℤ dot e e) ≤ℤ square (square s *ℤ (whole *ℤ pos size)))
          (sym point_moves) (subst (λ (z : ℤ). (square (pos unit) *ℤ dot (scale_v s move) (scale_v s move)) ≤ℤ z)
          (solve 2 (λ s l. s ⊗ s ⊗ (s ⊗ s ⊗ (l ⊗ l)) ≈ (s ⊗ s ⊗ l) ⊗ (s ⊗ s ⊗ l)) cancels s (whole *ℤ pos size)) m));
    }
      where
        bounded_multiple_by : (m s l : ℤ) (k : Vector) → (square m *ℤ dot k k) ≤ℤ (square s *ℤ l) →
            (square m *ℤ dot (scale_v s k) (scale_v s k)) ≤ℤ (square s *ℤ (square s *ℤ l))
        bounded_multiple_by m s l k b =
            let h = mul_le (square_nonneg s) b in
            let e = identity (scalar ∷ scalar ∷ vector ∷ []) (λ m p k. m ⊗ m ⊗ dotE (scaleE p k) (scaleE p k) ≈ p ⊗ p ⊗
            (m ⊗ m ⊗ dotE k k)) cancels m s k in
            omega (arith, linear, h, e)

-- ---- surfaces
pub points_move_within : (size unit : ℕ) (from to : ℕ → Spot) (ts : List (Positions ℕ)) →
    AllByRecursion (CornersMoveWithin size unit from to) ts → PointsMoveWithin size unit from to ts
points_move_within size unit from to [] h = tt
points_move_within size unit from to (t ∷ ts) h = (
  (λ i j k. mean_is_within (pos i) (pos j) (pos k) (from t.a) (from t.b) (from t.c) (to t.a) (to t.b) (to t.c) size
      unit (natural i) (natural j) (natural k) h.0.a.within h.0.b.within h.0.c.within),
  points_move_within size unit from to ts h.1,
)
  where
    natural : (n : ℕ) → pos 0 ≤ℤ pos n
    natural n = omega (arith, ints)
