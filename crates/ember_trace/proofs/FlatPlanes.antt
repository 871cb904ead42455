-- A plane that is 0 at all inside points of a face is plane_over_face_is_parallel to its support plane: so a triangle
-- in it lies in the plane of the face.
use Rattle.std.proofs.Common.{◌≡◌, ◌≢◌, refl, sym, ap, subst, ◌∙◌, ⊎_elim, arith, ℕ, le_refl, true, false, not, ◌&&◌}
use Rattle.std.proofs.Common.{List, [], ◌∷◌, ℤ, pos, ◌+ℤ◌, ◌-ℤ◌, ◌*ℤ◌, neg_ℤ, ◌<ℤ◌, ◌≤ℤ◌}
use Rattle.std.proofs.lemmas.Bool.{and_parts}
use Rattle.ember_algebra.specs.Vector.{Vector}
use Rattle.ember_algebra.specs.Large.{Eventually}
use Rattle.ember_algebra.specs.Sign.{is_negative, is_zero}
use Rattle.ember_algebra.proofs.Laws.{linear}
use Rattle.ember_algebra.proofs.Large.{eventually_both, eventually_map, eventually_pos}
use Rattle.ember_algebra.proofs.Order.{by_sign, zero_product}
use Rattle.ember_algebra.proofs.Ring.{◌⊕◌, ◌⊖◌, ◌⊗◌, ◌≈◌, num, neg, solve, cancels}
use Rattle.ember_algebra.proofs.Vectors.{vector, identity, dotE, crossE, minusE}
use Rattle.ember_model.specs.declared.plane.Plane.{Plane}
use Rattle.ember_model.specs.declared.point.Spot.{Spot}
use Rattle.ember_model.specs.declared.tri.Tri.{Tri}
use Rattle.ember_model.specs.declared.face.Face.{Face}
use Rattle.ember_model.specs.Planes.{vector_of, value_at, opposite, support_of}
use Rattle.ember_model.specs.Faces.{is_inside, is_in_closed, is_flat, face_of, Everywhere}
use Rattle.ember_model.specs.Owners.{spot_of_corner, lies_in_plane_of, is_coplanar}
use Rattle.ember_model.specs.ClearTest.{all_negative}
use Rattle.ember_model.proofs.SignTests.{negative_in, negative_out, positive_in, zero_scaled, zero_times, zero_out, not_true, clash}
use Rattle.ember_model.proofs.Hits.{inside_on, inside_parts}
use Rattle.ember_model.proofs.PlaneValues.{value-opposite}
use Rattle.ember_law.proofs.Generic.{cancel_zero}
use Rattle.ember_law.proofs.FlatTriangles.{flat_in}
use Rattle.ember_law.proofs.CornerSides.{above_corners}
use Rattle.ember_trace.proofs.Corners.{Parallel}

-- ---- a little beside a point, along a vector
abbrev beside : ℕ → Spot → Vector → Spot
beside n v d = record { x = v.x *ℤ pos n +ℤ d.x; y = v.y *ℤ pos n +ℤ d.y; z = v.z *ℤ pos n +ℤ d.z; w = v.w *ℤ pos n }

abbrev slope : Plane → Vector → ℤ
slope p d = p.a *ℤ d.x +ℤ p.b *ℤ d.y +ℤ p.c *ℤ d.z

value_beside : (p : Plane) (n : ℕ) (v : Spot) (d : Vector) → value_at p (beside n v d) ≡ value_at p v *ℤ pos n +ℤ slope p d
value_beside p n v d =
    solve 12 (λ a b c d m x y z w s t u. a ⊗ (x ⊗ m ⊕ s) ⊕ b ⊗ (y ⊗ m ⊕ t) ⊕ c ⊗ (z ⊗ m ⊕ u) ⊖ d ⊗ (w ⊗ m) ≈
    (a ⊗ x ⊕ b ⊗ y ⊕ c ⊗ z ⊖ d ⊗ w) ⊗ m ⊕ (a ⊗ s ⊕ b ⊗ t ⊕ c ⊗ u)) cancels p.a p.b p.c p.d (pos n) v.x v.y v.z v.w d.x
    d.y d.z

edges_beside : (es : List Plane) (v : Spot) (d : Vector) → all_negative es v ≡ true → Eventually (λ n. all_negative es (beside n v d) ≡ true)
edges_beside [] v d h = record { from = 0; holds = λ n l. refl }
edges_beside (e ∷ es) v d h =
    let t = and_parts (is_negative (value_at e v)) (all_negative es v) h in let s = negative_out (value_at e v) t.0 in
    let up : pos 0 <ℤ neg_ℤ (value_at e v) = omega (arith, linear, s) in
    eventually_map (λ n q. let a = negative_in (below_zero n q.0) in let b = q.1 in
    λ i. a i && b i) (eventually_both (eventually_pos (neg_ℤ (slope e d)) up) (edges_beside es v d t.1))
  where
    below_zero : (n : ℕ) → pos 0 <ℤ (neg_ℤ (value_at e v) *ℤ pos n +ℤ neg_ℤ (slope e d)) → value_at e (beside n v d) <ℤ pos 0
    below_zero n q =
        omega (arith, linear, q, value_beside e n v d, solve 2 (λ a m. neg a ⊗ m ≈ neg (a ⊗ m)) cancels (value_at e v) (pos n))

-- a plane that is 0 at all inside points has no slope along the face
no_slope : (f : Face) (p : Plane) (v : Spot) (d : Vector) → is_inside f v ≡ true →
    Everywhere f (λ u. value_at p u ≡ pos 0) → slope f.support d ≡ pos 0 → slope p d ≡ pos 0
no_slope f p v d h z flat =
    let i = inside_parts f v h in
    let far = eventually_both (eventually_pos (pos 0) i.0) (edges_beside f.edges v d i.2) in let n = far.from in let r = far.holds n (le_refl n) in
    let e = value_beside f.support n v d in let zs = zero_times (value_at f.support v) (pos n) i.1 in
    let w = r.0 in
    let o = z.holds (beside n v d) (inside_on f (beside n v d) (positive_in (omega (arith, linear, w))) (omega (arith, linear, e, zs, flat)) ∙ r.1) in
    let g = value_beside p n v d in let zp = zero_times (value_at p v) (pos n) (z.holds v h) in omega (arith, linear, o, g, zp)

-- ---- plane_over_face_is_parallel planes
pub plane_over_face_is_parallel : (f : Face) (p : Plane) (v : Spot) → is_inside f v ≡ true → Everywhere f (λ u. value_at p u ≡ pos 0) → Parallel f.support p
plane_over_face_is_parallel f p v h z =
    let n = f.support in
    let a = no_slope f p v (record { x = pos 0; y = n.c; z = neg_ℤ n.b }) h z
    (solve 3 (λ a b c. a ⊗ num (pos 0) ⊕ b ⊗ c ⊕ c ⊗ neg b ≈ num (pos 0)) cancels n.a n.b n.c) in
    let b = no_slope f p v (record { x = neg_ℤ n.c; y = pos 0; z = n.a }) h z
    (solve 3 (λ a b c. a ⊗ neg c ⊕ b ⊗ num (pos 0) ⊕ c ⊗ a ≈ num (pos 0)) cancels n.a n.b n.c) in
    let c = no_slope f p v (record { x = n.b; y = neg_ℤ n.a; z = pos 0 }) h z
    (solve 3 (λ a b c. a ⊗ b ⊕ b ⊗ neg a ⊕ c ⊗ num (pos 0) ≈ num (pos 0)) cancels n.a n.b n.c) in
    record {
      x = omega (arith, linear, a, solve 5 (λ a b c n m. a ⊗ num (pos 0) ⊕ b ⊗ m ⊕ c ⊗ neg n ≈ m ⊗ b ⊖ n ⊗ c) cancels p.a p.b p.c n.b n.c);
      y = omega (arith, linear, b, solve 5 (λ a b c n m. a ⊗ neg m ⊕ b ⊗ num (pos 0) ⊕ c ⊗ n ≈ n ⊗ c ⊖ m ⊗ a) cancels p.a p.b p.c n.a n.c);
      z = omega (arith, linear, c, solve 5 (λ a b c n m. a ⊗ m ⊕ b ⊗ neg n ⊕ c ⊗ num (pos 0) ≈ m ⊗ a ⊖ n ⊗ b) cancels p.a p.b p.c n.a n.b);
    }

-- a point of the second plane lies on the first, if some point lies on both
module _ (n p : Plane) (v q : Spot) (l : Parallel n p) (w : pos 0 <ℤ v.w) (nv : value_at n v ≡ pos 0)
    (pv : value_at p v ≡ pos 0) (pq : value_at p q ≡ pos 0) where
  by_entry : (d a r s : ℤ) → d ≢ pos 0 → r ≡ pos 0 → s ≡ pos 0 → (y z : ℤ) →
      d *ℤ (v.w *ℤ value_at n q -ℤ q.w *ℤ value_at n v) ≡ a *ℤ (v.w *ℤ value_at p q -ℤ q.w *ℤ value_at p v) +ℤ r *ℤ y +ℤ s
      *ℤ z → value_at n q ≡ pos 0
  by_entry d a r s nz er es y z e =
      let zr = zero_times r y er in let zs = zero_times s z es in let x = zero_scaled v.w (value_at p q) pq in let t =
      zero_scaled q.w (value_at p v) pv in let u = zero_scaled q.w (value_at n v) nv in
      let f : v.w *ℤ value_at p q -ℤ q.w *ℤ value_at p v ≡ pos 0 = omega (arith, linear, x, t) in let g =
      zero_scaled a (v.w *ℤ value_at p q -ℤ q.w *ℤ value_at p v) f in
      ⊎_elim (λ o. absurd (nz o)) (λ o. cancel_zero v.w (value_at n q) w (omega (arith, linear, o, u)))
      (zero_product {a = d} {b = v.w *ℤ value_at n q -ℤ q.w *ℤ value_at n v} (omega (arith, linear, e, g, zr, zs)))

  by_x : p.a ≢ pos 0 → value_at n q ≡ pos 0
  by_x nz =
      let y = l.y in let z = l.z in
      by_entry p.a n.a (n.b *ℤ p.a -ℤ n.a *ℤ p.b) (n.c *ℤ p.a -ℤ n.a *ℤ p.c) nz (omega (arith, linear, z))
      (omega (arith, linear, y)) (v.w *ℤ q.y -ℤ q.w *ℤ v.y) (v.w *ℤ q.z -ℤ q.w *ℤ v.z)
      (solve 16 (λ a b c d e f g h x y z w r s t u. e ⊗
      (w ⊗ (a ⊗ r ⊕ b ⊗ s ⊕ c ⊗ t ⊖ d ⊗ u) ⊖ u ⊗ (a ⊗ x ⊕ b ⊗ y ⊕ c ⊗ z ⊖ d ⊗ w)) ≈ a ⊗
      (w ⊗ (e ⊗ r ⊕ f ⊗ s ⊕ g ⊗ t ⊖ h ⊗ u) ⊖ u ⊗ (e ⊗ x ⊕ f ⊗ y ⊕ g ⊗ z ⊖ h ⊗ w)) ⊕ (b ⊗ e ⊖ a ⊗ f) ⊗ (w ⊗ s ⊖ u ⊗ y)
      ⊕ (c ⊗ e ⊖ a ⊗ g) ⊗ (w ⊗ t ⊖ u ⊗ z)) cancels n.a n.b n.c n.d p.a p.b p.c p.d v.x v.y v.z v.w q.x q.y q.z q.w)

  by_y : p.b ≢ pos 0 → value_at n q ≡ pos 0
  by_y nz =
      let x = l.x in let z = l.z in
      by_entry p.b n.b (n.a *ℤ p.b -ℤ n.b *ℤ p.a) (n.c *ℤ p.b -ℤ n.b *ℤ p.c) nz (omega (arith, linear, z))
      (omega (arith, linear, x)) (v.w *ℤ q.x -ℤ q.w *ℤ v.x) (v.w *ℤ q.z -ℤ q.w *ℤ v.z)
      (solve 16 (λ a b c d e f g h x y z w r s t u. f ⊗
      (w ⊗ (a ⊗ r ⊕ b ⊗ s ⊕ c ⊗ t ⊖ d ⊗ u) ⊖ u ⊗ (a ⊗ x ⊕ b ⊗ y ⊕ c ⊗ z ⊖ d ⊗ w)) ≈ b ⊗
      (w ⊗ (e ⊗ r ⊕ f ⊗ s ⊕ g ⊗ t ⊖ h ⊗ u) ⊖ u ⊗ (e ⊗ x ⊕ f ⊗ y ⊕ g ⊗ z ⊖ h ⊗ w)) ⊕ (a ⊗ f ⊖ b ⊗ e) ⊗ (w ⊗ r ⊖ u ⊗ x)
      ⊕ (c ⊗ f ⊖ b ⊗ g) ⊗ (w ⊗ t ⊖ u ⊗ z)) cancels n.a n.b n.c n.d p.a p.b p.c p.d v.x v.y v.z v.w q.x q.y q.z q.w)

  by_z : p.c ≢ pos 0 → value_at n q ≡ pos 0
  by_z nz =
      let x = l.x in let y = l.y in
      by_entry p.c n.c (n.a *ℤ p.c -ℤ n.c *ℤ p.a) (n.b *ℤ p.c -ℤ n.c *ℤ p.b) nz (omega (arith, linear, y))
      (omega (arith, linear, x)) (v.w *ℤ q.x -ℤ q.w *ℤ v.x) (v.w *ℤ q.y -ℤ q.w *ℤ v.y)
      (solve 16 (λ a b c d e f g h x y z w r s t u. g ⊗
      (w ⊗ (a ⊗ r ⊕ b ⊗ s ⊕ c ⊗ t ⊖ d ⊗ u) ⊖ u ⊗ (a ⊗ x ⊕ b ⊗ y ⊕ c ⊗ z ⊖ d ⊗ w)) ≈ c ⊗
      (w ⊗ (e ⊗ r ⊕ f ⊗ s ⊕ g ⊗ t ⊖ h ⊗ u) ⊖ u ⊗ (e ⊗ x ⊕ f ⊗ y ⊕ g ⊗ z ⊖ h ⊗ w)) ⊕ (a ⊗ g ⊖ c ⊗ e) ⊗ (w ⊗ r ⊖ u ⊗ x)
      ⊕ (b ⊗ g ⊖ c ⊗ f) ⊗ (w ⊗ s ⊖ u ⊗ y)) cancels n.a n.b n.c n.d p.a p.b p.c p.d v.x v.y v.z v.w q.x q.y q.z q.w)

  pub shared : ((p.a ≡ pos 0) → (p.b ≡ pos 0) → (p.c ≡ pos 0) → ⊥) → value_at n q ≡ pos 0
  shared some =
      by_sign p.a (λ o. by_x (λ z. omega (arith, linear, o, z)))
      (λ za. by_sign p.b (λ o. by_y (λ z. omega (arith, linear, o, z)))
      (λ zb. by_sign p.c (λ o. by_z (λ z. omega (arith, linear, o, z))) (λ zc. absurd (some za zb zc)) (λ o. by_z (λ z. omega (arith, linear, o, z))))
      (λ o. by_y (λ z. omega (arith, linear, o, z))))
      (λ o. by_x (λ z. omega (arith, linear, o, z)))

-- ---- triangles
pub corner_a : (u : Tri) → value_at (support_of u) (spot_of_corner u.a) ≡ pos 0
corner_a u =
    identity (vector ∷ vector ∷ vector ∷ []) (λ a b c. dotE (crossE (minusE b a) (minusE c a)) a ⊖ dotE
    (crossE (minusE b a) (minusE c a)) a ⊗ num (pos 1) ≈ num (pos 0)) cancels (vector_of u.a) (vector_of u.b)
    (vector_of u.c)

corner_b : (u : Tri) → value_at (support_of u) (spot_of_corner u.b) ≡ pos 0
corner_b u =
    identity (vector ∷ vector ∷ vector ∷ []) (λ a b c. dotE (crossE (minusE b a) (minusE c a)) b ⊖ dotE
    (crossE (minusE b a) (minusE c a)) a ⊗ num (pos 1) ≈ num (pos 0)) cancels (vector_of u.a) (vector_of u.b)
    (vector_of u.c)

corner_c : (u : Tri) → value_at (support_of u) (spot_of_corner u.c) ≡ pos 0
corner_c u =
    identity (vector ∷ vector ∷ vector ∷ []) (λ a b c. dotE (crossE (minusE b a) (minusE c a)) c ⊖ dotE
    (crossE (minusE b a) (minusE c a)) a ⊗ num (pos 1) ≈ num (pos 0)) cancels (vector_of u.a) (vector_of u.b)
    (vector_of u.c)

-- a triangle whose plane is 0 at all inside points of a face, of which there is one, lies in the
-- plane of the face's triangle
pub lies_flat : (t u : Tri) (f : Face) (v : Spot) → f.support ≡ support_of t → is_flat t ≡ false → is_flat u ≡ false →
    is_inside f v ≡ true → Everywhere f (λ x. value_at (support_of u) x ≡ pos 0) → is_coplanar t u ≡ true
unfolding is_coplanar
lies_flat t u f v s ft fu h z =
    let i = inside_parts f v h in
    let l = subst (λ (n : Plane). Parallel n (support_of u)) s (plane_over_face_is_parallel f (support_of u) v h z) in
    let tv = sym (ap (λ (n : Plane). value_at n v) s) ∙ i.1 in
    let some = λ (a : (support_of u).a ≡ pos 0) (b : (support_of u).b ≡ pos 0) (c : (support_of u).c ≡ pos 0). clash
    (flat_in u (record { a = a; b = b; c = c })) fu in
    let x = ap is_zero (shared (support_of t) (support_of u) v (spot_of_corner u.a) l i.0 tv (z.holds v h) (corner_a u) some) in
    let y = ap is_zero (shared (support_of t) (support_of u) v (spot_of_corner u.b) l i.0 tv (z.holds v h) (corner_b u) some) in
    let w = ap is_zero (shared (support_of t) (support_of u) v (spot_of_corner u.c) l i.0 tv (z.holds v h) (corner_c u) some) in
    λ i. not (ft i) && (not (fu i) && (x i && (y i && w i)))

-- a triangle that isn't flat is coplanar with itself
pub self_coplanar : (t : Tri) → is_flat t ≡ false → is_coplanar t t ≡ true
unfolding is_coplanar
self_coplanar t ft =
    let x = ap is_zero (corner_a t) in let y = ap is_zero (corner_b t) in let w = ap is_zero (corner_c t) in
    λ i. not (ft i) && (not (ft i) && (x i && (y i && w i)))

-- if the two are coplanar, the plane of the first is 0 at the closed face of the second
pub shared_face : (t u : Tri) (x : Spot) → is_coplanar t u ≡ true → is_in_closed (face_of u) x ≡ true → value_at (support_of t) x ≡ pos 0
unfolding is_coplanar
shared_face t u x e h =
    let p = and_parts (not (is_flat t)) (not (is_flat u) && lies_in_plane_of t u) e in let q = and_parts (not (is_flat u)) (lies_in_plane_of t u) p.1 in
    let s = support_of t in
    let r = and_parts (is_zero (value_at s (spot_of_corner u.a)))
    (is_zero (value_at s (spot_of_corner u.b)) && is_zero (value_at s (spot_of_corner u.c))) q.1 in
    let o = and_parts (is_zero (value_at s (spot_of_corner u.b))) (is_zero (value_at s (spot_of_corner u.c))) r.1 in
    let a = zero_out (value_at s (spot_of_corner u.a)) r.0 in let b = zero_out (value_at s (spot_of_corner u.b)) o.0 in
    let c = zero_out (value_at s (spot_of_corner u.c)) o.1 in
    let up = above_corners u s x (not_true (is_flat u) q.0) (omega (arith, linear, a)) (omega (arith, linear, b)) (omega (arith, linear, c)) h in
    let down = above_corners u (opposite s) x (not_true (is_flat u) q.0) (turned (spot_of_corner u.a) a)
    (turned (spot_of_corner u.b) b) (turned (spot_of_corner u.c) c) h in
    let t = value-opposite s x in omega (arith, linear, up, down, t)
  where
    turned : (v : Spot) → value_at (support_of t) v ≡ pos 0 → pos 0 ≤ℤ value_at (opposite (support_of t)) v
    turned v z = let e = value-opposite (support_of t) v in omega (arith, linear, e, z)
