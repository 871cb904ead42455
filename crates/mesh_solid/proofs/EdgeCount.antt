-- One edge of an outlined face, as a ray from a point of its plane passes it: where the ray leaves the face or enters it.
use Rattle.std.proofs.Common.{◌≡◌, ◌≢◌, ⊎_elim, refl, sym, ap, subst, ◌∙◌, arith, Bool, true, false, not, cond, ◌&&◌, T}
use Rattle.std.proofs.Common.{[], ◌∷◌, ℤ, pos, ◌+ℤ◌, ◌-ℤ◌, ◌*ℤ◌, neg_ℤ, ◌<ℤ◌, ◌≤ℤ◌}
use Rattle.ember_algebra.specs.Vector.{Vector, zero_v, scale_v, dot, cross}
use Rattle.ember_algebra.specs.declared.Sign.{Sign}
use Rattle.ember_algebra.specs.declared.Sign.TheVariants.{Neg, Zero, Pos}
use Rattle.ember_algebra.specs.Sign.{sign, sgn, flip, times, is_pos, is_neg, is_nil, is_negative, is_zero}
use Rattle.ember_algebra.proofs.Laws.{linear}
use Rattle.ember_algebra.proofs.Order.{by_sign, pos_mul, mul_neg_neg, sign_scaled, zero_product}
use Rattle.ember_algebra.proofs.Ring.{◌⊕◌, ◌⊖◌, ◌⊗◌, ◌≈◌, num, neg, solve, cancels}
use Rattle.ember_algebra.proofs.Signs.{pick, may_sum, both, not_null, sum_may, sgn-mul, sgn-neg, zero_from_sgn, pos_from_sgn}
use Rattle.ember_algebra.proofs.Signs.{flip_zero}
use Rattle.ember_algebra.proofs.Vectors.{scalar, vector, identity, vector_identity, same_v, dotE, crossE, scaleE, ◌≈v◌, cancels_v}
use Rattle.ember_algebra.proofs.Vectors.{square_positive}
use Rattle.ember_algebra.proofs.Identities.{parallel_products}
use Rattle.ember_model.specs.declared.plane.Plane.{Plane}
use Rattle.ember_model.specs.declared.point.Spot.{Spot}
use Rattle.ember_model.specs.declared.face.Face.{Face}
use Rattle.ember_model.specs.ClearTest.{none_positive}
use Rattle.ember_model.specs.Edges.{RingEdge, IsEdge, normal, is_on_edge}
use Rattle.ember_model.specs.Faces.{size, between}
use Rattle.ember_model.specs.Planes.{value_at}
use Rattle.ember_model.proofs.Hits.{closed_on}
use Rattle.ember_model.proofs.Legs.{value_between, size_is_pos, size_is_neg, ends_nonzero}
use Rattle.ember_model.proofs.SignTests.{clash, and_true, sgn_scaled, negative_not, positive_in, size_positive, zero_scaled}
use Rattle.ember_model.specs.Points.{displacement}
use Rattle.ember_model.proofs.Displacements.{displacement_value}
use Rattle.ember_meaning.specs.Closed.Chains.{DirectedEdge, is_zero_vector, reached, coverage}
use Rattle.ember_meaning.proofs.RectangleRound.{IsGeneralFace}
use Rattle.ember_meaning.proofs.Displacements.{Parallel, zeroE, dot_swap, none_parallel}
use Rattle.ember_meaning.proofs.Displacements.{parallel_swap, zero_vector_in, zero_vector_out}
use Rattle.ember_meaning.proofs.EdgeForm.{start_on, end_on, leads, course_nonzero, line_displacement, flat_displacement, edge_form}
use Rattle.mesh_solid.proofs.Passings.{passing, below, passing_on_line, opposite_product, pick_is_cond}
use Rattle.mesh_solid.proofs.Seen.{area, height, turn_at, passing_at, area_course, area_dot, area_scale}
use Rattle.mesh_solid.proofs.Seen.{height_on_ray, height_step, turn_sign, step_sign, may_sums}

-- the point at infinity along e: a plane's value there is how it climbs along e
abbrev pub far : Vector → Spot
far e = record { x = e.x; y = e.y; z = e.z; w = pos 0 }

pub value_far : (h : Plane) (e : Vector) → value_at h (far e) ≡ dot (normal h) e
value_far h e =
    solve 7 (λ a b c d x y z. a ⊗ x ⊕ b ⊗ y ⊕ c ⊗ z ⊖ d ⊗ num (pos 0) ≈ a ⊗ x ⊕ b ⊗ y ⊕ c ⊗ z) cancels h.a h.b h.c h.d e.x e.y e.z

-- ---- numbers, signs and vectors
-- the other way round
reached_below : (s : Sign) → (s ≡ Zero → ⊥) → cond (is_neg (flip s)) (pos 0) (pos 1) ≡ below s
reached_below Neg n = refl
reached_below Zero n = absurd (n refl)
reached_below Pos n = refl

zero_by_sign : (z : ℤ) → sgn z ≡ Zero → z ≡ pos 0
zero_by_sign z s = zero_from_sgn z (subst (λ (t : Sign). T (is_nil t)) (sym s) tt)

-- numbers of one sign have a positive product
same_signs_positive : (a b : ℤ) → sgn a ≡ sgn b → b ≢ pos 0 → pos 0 <ℤ (b *ℤ a)
same_signs_positive a b s n =
    pos_from_sgn (b *ℤ a) (subst (λ (t : Sign). T (is_pos t)) (sym (sgn-mul b a ∙ ap (λ (t : Sign). times (sgn b) t) s)) (squared (sgn b) (not_null b n)))
  where
    squared : (s : Sign) → T (not (is_nil s)) → T (is_pos (times s s))
    squared Neg t = tt
    squared Zero t = absurd t
    squared Pos t = tt

-- where a plane whose values have opposite signs at two points is 0
own_value : (a b : ℤ) → is_negative (a *ℤ b) ≡ true → size b *ℤ a +ℤ size a *ℤ b ≡ pos 0
own_value a b h =
    by_sign a
    (λ l. by_sign b (λ m. absurd (clash h (negative_not (a *ℤ b) (weak (pos_mul l m)))))
    (λ z. absurd ((ends_nonzero a b h).1 z)) (λ m. let x = size_is_neg b m in let y = size_is_pos a l in
    (λ i. x i *ℤ a +ℤ y i *ℤ b) ∙ solve 2 (λ a b. neg b ⊗ a ⊕ a ⊗ b ≈ num (pos 0)) cancels a b))
    (λ z. absurd ((ends_nonzero a b h).0 z))
    (λ l. by_sign b (λ m. let x = size_is_pos b m in let y = size_is_neg a l in
    (λ i. x i *ℤ a +ℤ y i *ℤ b) ∙ solve 2 (λ a b. b ⊗ a ⊕ neg a ⊗ b ≈ num (pos 0)) cancels a b)
    (λ z. absurd ((ends_nonzero a b h).1 z)) (λ m. absurd (clash h (negative_not (a *ℤ b) (weak (mul_neg_neg l m))))))
  where
    weak : {z : ℤ} → pos 0 <ℤ z → pos 0 ≤ℤ z
    weak l = omega (arith, linear)

-- a multiple of a vector is 0 only if the vector is
pub scaled_none : (k : ℤ) (v : Vector) → k ≢ pos 0 → scale_v k v ≡ zero_v → v ≡ zero_v
scaled_none k v n e =
    same_v (entry (ap (λ (v : Vector). v.x) e)) (entry (ap (λ (v : Vector). v.y) e)) (entry (ap (λ (v : Vector). v.z) e))
  where
    entry : {z : ℤ} → k *ℤ z ≡ pos 0 → z ≡ pos 0
    entry e = ⊎_elim (λ z. absurd (n z)) (λ z. z) (zero_product e)

scaled_parallel : (k : ℤ) (v c : Vector) → Parallel v c → Parallel v (scale_v k c)
scaled_parallel k v c p =
    vector_identity (scalar ∷ vector ∷ vector ∷ []) (λ k v c. crossE v (scaleE k c) ≈v scaleE k (crossE v c)) cancels_v
    k v c ∙ ap (λ (z : Vector). scale_v k z) p
    ∙ vector_identity (scalar ∷ []) (λ k. scaleE k zeroE ≈v zeroE) cancels_v k

nonzero_test : (v : Vector) → v ≢ zero_v → is_zero_vector v ≡ false
nonzero_test v n = by (is_zero_vector v) refl
  where
    by : (b : Bool) → is_zero_vector v ≡ b → is_zero_vector v ≡ false
    by true h = absurd (n (zero_vector_out h))
    by false h = h

module _ (f : Face) (k : RingEdge) (end : Spot) (edge : IsEdge f k end) (e : Vector) (x : Spot) (wx : pos 0 <ℤ x.w)
    (flat : value_at f.support x ≡ pos 0) (level : dot (normal f.support) e ≡ pos 0) where
  abbrev n : Plane
  n = f.support

  abbrev g : Plane
  g = k.plane

  abbrev u : Spot
  u = k.start

  abbrev course : Vector
  course = cross (normal n) (normal g)

  abbrev way : Vector
  way = displacement u end

  wu : pos 0 <ℤ u.w
  wu = (start_on f k end edge).closed.weight

  we : pos 0 <ℤ end.w
  we = (end_on f k end edge).closed.weight

  nu : value_at n u ≡ pos 0
  nu = (start_on f k end edge).closed.flat

  gu : value_at g u ≡ pos 0
  gu = (start_on f k end edge).zero

  -- n has a normal, since the edge has a course
  square : pos 0 <ℤ dot (normal n) (normal n)
  square = square_positive (normal n) (λ z. course_nonzero f k end edge (none_parallel (normal g) z))

  way_parallel : Parallel way course
  way_parallel =
      line_displacement n g u end nu (end_on f k end edge).closed.flat gu (end_on f k end edge).zero

  -- ---- areas with the way are those with the course
  along_course : (a : Vector) → sgn (area n a way) ≡ sgn (area n a course)
  along_course a =
      let b = cross (normal n) a in
      let c = square_positive course (course_nonzero f k end edge) in
      let p = parallel_products course b course way (parallel_swap way course way_parallel) in
      sym (sgn_scaled (area n a way) c) ∙ ap sgn
      (ap (λ (z : ℤ). dot course course *ℤ z) (area_dot n a way) ∙ p
      ∙ ap (λ (z : ℤ). dot course way *ℤ z) (sym (area_dot n a course)))
      ∙ sgn_scaled (area n a course) (leads f k end edge)

  -- how g climbs along e is how the height changes along the course
  climb : sgn (area n e course) ≡ sgn (value_at g (far e))
  climb =
      let v = value_far g e ∙ dot_swap (normal g) e in let o = dot_swap e (normal n) ∙ level in
      ap sgn (area_course n e (normal g) ∙ (λ i. dot (normal n) (normal n) *ℤ dot e (normal g) -ℤ dot (normal n)
      (normal g) *ℤ o i) ∙ solve 3 (λ a b c. a ⊗ b ⊖ c ⊗ num (pos 0) ≈ a ⊗ b) cancels (dot (normal n) (normal n))
      (dot e (normal g)) (dot (normal n) (normal g))) ∙ sgn_scaled (dot e (normal g)) square ∙ ap sgn (sym v)

  -- and the edge turns left as seen from x where g is negative at x
  turned : sgn (turn_at n x u end) ≡ flip (sgn (value_at g x))
  turned =
      let d = displacement x u in
      let o : dot d (normal n) ≡ pos 0 = dot_swap d (normal n) ∙ flat_displacement n x u flat nu in
      let v : dot d (normal g) ≡ neg_ℤ (u.w *ℤ value_at g x) =
      dot_swap d (normal g) ∙ sym (displacement_value g x u)
      ∙ drop (u.w *ℤ value_at g x) (zero_scaled x.w (value_at g u) gu) in
      turn_sign n x u end wx wu ∙ along_course d
      ∙ ap sgn (area_course n d (normal g) ∙ (λ i. dot (normal n) (normal n) *ℤ v i -ℤ dot (normal n) (normal g) *ℤ o
      i) ∙ solve 4 (λ a c w z. a ⊗ neg (w ⊗ z) ⊖ c ⊗ num (pos 0) ≈ neg ((a ⊗ w) ⊗ z)) cancels
      (dot (normal n) (normal n)) (dot (normal n) (normal g)) u.w (value_at g x))
      ∙ sgn-neg ((dot (normal n) (normal n) *ℤ u.w) *ℤ value_at g x)
      ∙ ap flip (sgn_scaled (value_at g x) (pos_mul square wu))
    where
      drop : {y : ℤ} (z : ℤ) → y ≡ pos 0 → y -ℤ z ≡ neg_ℤ z
      drop z p = omega (arith, linear, p)

  -- the height grows over the edge as g climbs
  pub step_is : sgn (u.w *ℤ height n e x end -ℤ end.w *ℤ height n e x u) ≡ sgn (value_at g (far e))
  step_is = step_sign n e x u end wx ∙ along_course e ∙ climb

  -- so the ray passes the edge as its line says
  module _ (hu : height n e x u ≢ pos 0) (he : height n e x end ≢ pos 0) where
    step : T (may_sum (sgn (height n e x end)) (flip (sgn (height n e x u))) (sgn (value_at g (far e))))
    step =
        let a = sgn_scaled (height n e x end) wu in
        let b = sgn-neg (end.w *ℤ height n e x u) ∙ ap flip (sgn_scaled (height n e x u) we) in
        let c = step_is in
        may_sums a b c (sum_may (u.w *ℤ height n e x end) (neg_ℤ (end.w *ℤ height n e x u)))

    abbrev crossed : Bool
    crossed = is_negative (value_at g x *ℤ value_at g (far e))

    passing_by_values : passing_at n e x u end ≡ cond crossed (below (sgn (height n e x u)) -ℤ below (sgn (height n e x end))) (pos 0)
    passing_by_values =
        let a = sgn (height n e x u) in let b = sgn (height n e x end) in
        ap (λ (s : Sign). passing a b s) turned ∙ passing_on_line a b Pos (flip (sgn (value_at g x)))
        (sgn (value_at g (far e))) (both _ _ (not_null (height n e x u) hu)
        (both _ _ (not_null (height n e x end) he) step))
        ∙ ap (λ (c : Bool). pick c (below a -ℤ below b)) (opposite_product (value_at g x) (value_at g (far e)))
        ∙ pick_is_cond crossed (below a -ℤ below b)

    -- ---- where the ray meets the edge's line
    module _ (c : crossed ≡ true) where
      abbrev y : Spot
      y = between g x (far e)

      alpha_nonzero : value_at g x ≢ pos 0
      alpha_nonzero = (ends_nonzero (value_at g x) (value_at g (far e)) c).0

      beta_nonzero : value_at g (far e) ≢ pos 0
      beta_nonzero = (ends_nonzero (value_at g x) (value_at g (far e)) c).1

      wy : pos 0 <ℤ y.w
      wy = let p = pos_mul (size_positive (value_at g (far e)) beta_nonzero) wx in omega (arith, linear, p, zero_scaled (size (value_at g x)) (pos 0) refl)

      ny : value_at n y ≡ pos 0
      ny =
          value_between n g x (far e) ∙ (let z = value_far n e ∙ level in
          λ i. size (value_at g (far e)) *ℤ flat i +ℤ size (value_at g x) *ℤ z i)
          ∙ solve 2 (λ a b. a ⊗ num (pos 0) ⊕ b ⊗ num (pos 0) ≈ num (pos 0)) cancels (size (value_at g (far e)))
          (size (value_at g x))

      gy : value_at g y ≡ pos 0
      gy = value_between g g x (far e) ∙ own_value (value_at g x) (value_at g (far e)) c

      -- the line's direction, along which the height grows
      abbrev d : Vector
      d = scale_v (value_at g (far e)) course

      d_nonzero : d ≢ zero_v
      d_nonzero z = course_nonzero f k end edge (scaled_none (value_at g (far e)) course beta_nonzero z)

      on_line : (v : Spot) → value_at n v ≡ pos 0 → value_at g v ≡ pos 0 → Parallel (displacement v y) d
      on_line v nv gv = scaled_parallel (value_at g (far e)) (displacement v y) course (line_displacement n g v y nv ny gv gy)

      -- y is on the ray
      height_y : height n e x y ≡ pos 0
      height_y = height_on_ray n e x (size (value_at g (far e))) (size (value_at g x))

      grows : pos 0 <ℤ area n e d
      grows =
          subst (λ (z : ℤ). pos 0 <ℤ z) (sym (area_scale n e (value_at g (far e)) course))
          (same_signs_positive (area n e course) (value_at g (far e)) climb beta_nonzero)

      -- the sign of the way from a corner to y along d
      before : (v : Spot) → value_at n v ≡ pos 0 → value_at g v ≡ pos 0 → sgn (dot (displacement v y) d) ≡ flip (sgn (height n e x v))
      before v nv gv =
          let h = height n e x v in
          let s : x.w *ℤ area n e (displacement v y) ≡ neg_ℤ (y.w *ℤ h) =
          sym (height_step n e x v y) ∙ (λ i. v.w *ℤ height_y i -ℤ y.w *ℤ h)
          ∙ solve 3 (λ v w h. v ⊗ num (pos 0) ⊖ w ⊗ h ≈ neg (w ⊗ h)) cancels v.w y.w h in
          let t : sgn (area n e (displacement v y)) ≡ flip (sgn h) =
          sym (sgn_scaled (area n e (displacement v y)) wx) ∙ ap sgn s ∙ sgn-neg (y.w *ℤ h)
          ∙ ap flip (sgn_scaled h wy) in
          let b = cross (normal n) e in
          let p = parallel_products d b d (displacement v y) (parallel_swap (displacement v y) d (on_line v nv gv)) in
          let q : area n e d *ℤ dot (displacement v y) d ≡ dot d d *ℤ area n e (displacement v y) =
          swapped (area n e d) (dot d (displacement v y)) (dot (displacement v y) d) (dot d d)
          (area n e (displacement v y)) (dot b d) (dot b (displacement v y)) (dot_swap (displacement v y) d)
          (area_dot n e d) (area_dot n e (displacement v y)) p in
          sym (sgn_scaled (dot (displacement v y) d) grows) ∙ ap sgn q ∙ sgn_scaled (area n e (displacement v y)) (square_positive d d_nonzero) ∙ t
        where
          swapped : (a b b' c v bd bv : ℤ) → b' ≡ b → a ≡ bd → v ≡ bv → c *ℤ bv ≡ b *ℤ bd → a *ℤ b' ≡ c *ℤ v
          swapped a b b' c v bd bv p q r h =
              (λ i. q i *ℤ p i) ∙ (let m = solve 2 (λ x y. x ⊗ y ≈ y ⊗ x) cancels bd b in m) ∙ sym h ∙ ap (λ (z : ℤ). c *ℤ z) (sym r)

      not_null_sign : (z : ℤ) → z ≢ pos 0 → sgn z ≡ Zero → ⊥
      not_null_sign z nz s = nz (zero_by_sign z s)

      reached_is : (v : Spot) → value_at n v ≡ pos 0 → value_at g v ≡ pos 0 → height n e x v ≢ pos 0 → reached d v y ≡ below (sgn (height n e x v))
      reached_is v nv gv nz =
          ap (λ (s : Sign). cond (is_neg s) (pos 0) (pos 1)) (before v nv gv) ∙ reached_below (sgn (height n e x v)) (not_null_sign (height n e x v) nz)

      beside : (v : Spot) → value_at n v ≡ pos 0 → value_at g v ≡ pos 0 → height n e x v ≢ pos 0 → dot (displacement v y) d ≢ pos 0
      beside v nv gv nz z = not_null_sign (height n e x v) nz (flip_zero (sgn (height n e x v)) (sym (before v nv gv) ∙ ap sgn z))

      abbrev whole : DirectedEdge
      whole = record { from = u; to = end }

      coverage_is : coverage y d whole ≡ below (sgn (height n e x u)) -ℤ below (sgn (height n e x end))
      coverage_is =
          let ne = (end_on f k end edge).closed.flat in let ge = (end_on f k end edge).zero in
          let p = zero_vector_in (scaled_parallel (value_at g (far e)) way course way_parallel) in
          let q = zero_vector_in (on_line u nu gu) in
          let r = reached_is u nu gu hu in let s = reached_is end ne ge he in
          λ i. cond (p i && q i) (r i -ℤ s i) (pos 0)

      -- the face's edge plane turns along d as g climbs
      turn_is : sign (dot course d) ≡ sign (value_at g (far e))
      turn_is =
          ap sign (identity (scalar ∷ vector ∷ []) (λ b c. dotE c (scaleE b c) ≈ dotE c c ⊗ b) cancels
          (value_at g (far e)) course) ∙ sign_scaled (value_at g (far e))
          (square_positive course (course_nonzero f k end edge))

      on_edge_is : is_on_edge f g y ≡ none_positive f.edges y
      on_edge_is =
          let z = closed_on f y (positive_in wy) ny in (λ i. z i && is_zero (gy i)) ∙ and_true (none_positive f.edges y)

      covered : IsGeneralFace d y f → coverage y d whole ≡ cond (none_positive f.edges y) (sign (value_at g (far e))) (pos 0)
      covered general =
          edge_form d y f k end wy (nonzero_test d d_nonzero) general edge
          (record {
            from = beside u nu gu hu;
            to =
                beside end (end_on f k end edge).closed.flat (end_on f k end edge).zero he;
          })
          ∙ (let o = on_edge_is in let t = turn_is in λ i. cond (o i) (t i) (pos 0))

    -- the ray passes the edge where it leaves the face there, or enters it
    pub edge_count : (is_negative (value_at g x *ℤ value_at g (far e)) ≡ true →
        IsGeneralFace (scale_v (value_at g (far e)) course) (between g x (far e)) f) →
        passing_at n e x u end ≡ cond (is_negative (value_at g x *ℤ value_at g (far e))
        && none_positive f.edges (between g x (far e))) (sign (value_at g (far e))) (pos 0)
    edge_count general = passing_by_values ∙ by crossed refl
      where
        by : (b : Bool) → crossed ≡ b → cond crossed (below (sgn (height n e x u)) -ℤ below (sgn (height n e x end)))
            (pos 0) ≡ cond (crossed && none_positive f.edges (between g x (far e))) (sign (value_at g (far e))) (pos 0)
        by false c = (λ i. cond (c i) (below (sgn (height n e x u)) -ℤ below (sgn (height n e x end))) (pos 0))
            ∙ sym (λ i. cond (c i && none_positive f.edges (between g x (far e))) (sign (value_at g (far e))) (pos 0))
        by true c =
            (λ i. cond (c i) (below (sgn (height n e x u)) -ℤ below (sgn (height n e x end))) (pos 0))
            ∙ sym (coverage_is c) ∙ covered c (general c)
            ∙ sym (λ i. cond (c i && none_positive f.edges (between g x (far e))) (sign (value_at g (far e))) (pos 0))
