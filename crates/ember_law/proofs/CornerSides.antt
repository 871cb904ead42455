-- A point of a triangle's closed face lies on each side of a plane on which all three corners lie.
use Rattle.std.proofs.Common.{◌≡◌, ◌≢◌, sym, ap, ◌∙◌, arith, true, false, not, [], ◌∷◌, ℤ, pos, ◌+ℤ◌, ◌*ℤ◌, neg_ℤ, ◌<ℤ◌, ◌≤ℤ◌}
use Rattle.std.proofs.lemmas.Int.{by_lt_z}
use Rattle.std.proofs.lemmas.Bool.{and_parts}
use Rattle.ember_algebra.specs.Sign.{sign, is_positive}
use Rattle.ember_algebra.proofs.Laws.{linear}
use Rattle.ember_algebra.proofs.Order.{pos_mul, nonneg_mul}
use Rattle.ember_algebra.proofs.Ring.{◌⊕◌, ◌⊖◌, ◌⊗◌, ◌≈◌, num, neg, solve, cancels}
use Rattle.ember_algebra.proofs.Vectors.{vector, tuple, identity, dotE, vector_partE, valueE}
use Rattle.ember_model.specs.declared.tri.Tri.{Tri}
use Rattle.ember_model.specs.declared.plane.Plane.{Plane}
use Rattle.ember_model.specs.declared.point.Spot.{Spot}
use Rattle.ember_model.specs.declared.point.Axis.{Axis}
use Rattle.ember_model.specs.declared.point.Axis.TheVariants.{X, Y, Z}
use Rattle.ember_model.specs.Planes.{vector_of, unit, value_at, along, main_axis, times_plane, support_of, edge_through}
use Rattle.ember_model.specs.Faces.{is_flat, face_of, is_in_closed}
use Rattle.ember_model.specs.ClearTest.{none_positive}
use Rattle.ember_model.specs.Owners.{spot_of_corner}
use Rattle.ember_model.proofs.SignTests.{not_positive_out, size_positive, clash, zero_scaled}
use Rattle.ember_model.proofs.PlaneValues.{value_times, size-is, along_dot, tuple_of, supportE, edgeE}
use Rattle.ember_model.proofs.SeenCrossings.{main_zero}
use Rattle.ember_model.proofs.Hits.{closed_parts}
use Rattle.ember_model.proofs.Tuples.{plane_tuple}
use Rattle.ember_law.proofs.FlatTriangles.{flat_in}

-- the normal of a triangle that isn't flat has an entry along its main axis
pub main_entry : (t : Tri) → is_flat t ≡ false → along (support_of t) (main_axis (support_of t)) ≢ pos 0
main_entry t e z =
    let n = support_of t in
    clash (flat_in t (record { a = main_zero n X z; b = main_zero n Y z; c = main_zero n Z z })) e

-- the value at x by the values at the corners
pub by_corners : (t : Tri) (p : Plane) (x : Spot) (k : Axis) →
    along (support_of t) k *ℤ value_at p x ≡ neg_ℤ
    (value_at (edge_through t.b t.c (unit k)) x *ℤ value_at p (spot_of_corner t.a) +ℤ value_at
    (edge_through t.c t.a (unit k)) x *ℤ value_at p (spot_of_corner t.b) +ℤ value_at (edge_through t.a t.b (unit k)) x *ℤ
    value_at p (spot_of_corner t.c)) +ℤ along p k *ℤ value_at (support_of t) x
by_corners t p x k =
    ap (λ (n : ℤ). n *ℤ value_at p x) (along_dot (support_of t) k)
    ∙ identity (vector ∷ vector ∷ vector ∷ vector ∷ tuple ∷ tuple ∷ [])
    (λ a b c f p x. dotE (vector_partE (supportE a b c)) f ⊗ valueE p x ≈ neg
    (valueE (edgeE b c f) x ⊗ (p.x ⊗ a.x ⊕ p.y ⊗ a.y ⊕ p.z ⊗ a.z ⊖ p.w ⊗ num (pos 1)) ⊕ valueE (edgeE c a f) x ⊗
    (p.x ⊗ b.x ⊕ p.y ⊗ b.y ⊕ p.z ⊗ b.z ⊖ p.w ⊗ num (pos 1)) ⊕ valueE (edgeE a b f) x ⊗
    (p.x ⊗ c.x ⊕ p.y ⊗ c.y ⊕ p.z ⊗ c.z ⊖ p.w ⊗ num (pos 1))) ⊕ dotE (vector_partE p) f ⊗ valueE (supportE a b c) x)
    cancels (vector_of t.a) (vector_of t.b) (vector_of t.c) (unit k) (plane_tuple p) (tuple_of x)
    ∙ ap (λ (n : ℤ). neg_ℤ (value_at (edge_through t.b t.c (unit k)) x *ℤ value_at p (spot_of_corner t.a) +ℤ value_at
    (edge_through t.c t.a (unit k)) x *ℤ value_at p (spot_of_corner t.b) +ℤ value_at (edge_through t.a t.b (unit k)) x
    *ℤ value_at p (spot_of_corner t.c)) +ℤ n *ℤ value_at (support_of t) x) (sym (along_dot p k))

weighed : (n s v e f g a b c k w : ℤ) → pos 0 <ℤ (s *ℤ n) → (s *ℤ e) ≤ℤ pos 0 → (s *ℤ f) ≤ℤ pos 0 → (s *ℤ g) ≤ℤ pos 0 →
    pos 0 ≤ℤ a → pos 0 ≤ℤ b → pos 0 ≤ℤ c → w ≡ pos 0 → n *ℤ v ≡ neg_ℤ (e *ℤ a +ℤ f *ℤ b +ℤ g *ℤ c) +ℤ k *ℤ w → pos 0 ≤ℤ v
weighed n s v e f g a b c k w l he hf hg ha hb hc hw h =
    by_lt_z v (pos 0)
    (λ u. absurd (
    let m : pos 0 <ℤ neg_ℤ v = omega (arith, linear) in
    let e' : pos 0 ≤ℤ neg_ℤ (s *ℤ e) = omega (arith, linear) in let f' : pos 0 ≤ℤ neg_ℤ (s *ℤ f) =
    omega (arith, linear) in let g' : pos 0 ≤ℤ neg_ℤ (s *ℤ g) = omega (arith, linear) in
    let x = pos_mul l m in let y = nonneg_mul e' ha in let z = nonneg_mul f' hb in let t = nonneg_mul g' hc in
    let o = zero_scaled k w hw in let q = ap (λ (u : ℤ). s *ℤ u) h in let r = zero_scaled s (k *ℤ w) o in
    omega (
      arith,
      linear,
      x,
      y,
      z,
      t,
      q,
      r,
      solve 3 (λ s n v. s ⊗ n ⊗ neg v ≈ neg (s ⊗ (n ⊗ v))) cancels s n v,
      solve 9 (λ s e f g a b c k w. s ⊗ (neg (e ⊗ a ⊕ f ⊗ b ⊕ g ⊗ c) ⊕ k ⊗ w) ≈ neg (s ⊗ e) ⊗ a ⊕ neg (s ⊗ f) ⊗ b ⊕ neg
          (s ⊗ g) ⊗ c ⊕ s ⊗ (k ⊗ w)) cancels s e f g a b c k w,
    )))
    (λ u. u)

-- if no corner of a triangle is below a plane, no point of its closed face is
pub above_corners : (t : Tri) (p : Plane) (x : Spot) → is_flat t ≡ false → pos 0 ≤ℤ value_at p (spot_of_corner t.a) →
    pos 0 ≤ℤ value_at p (spot_of_corner t.b) → pos 0 ≤ℤ value_at p (spot_of_corner t.c) →
    is_in_closed (face_of t) x ≡ true → pos 0 ≤ℤ value_at p x
unfolding face_of
above_corners t p x nf ha hb hc h =
    let n = support_of t in let k = main_axis n in let s = sign (along n k) in
    let ab = edge_through t.a t.b (unit k) in let bc = edge_through t.b t.c (unit k) in let ca = edge_through t.c t.a (unit k) in
    let i = closed_parts (face_of t) x h in
    let u = and_parts (not (is_positive (value_at (times_plane s ab) x))) (none_positive (times_plane s bc ∷ times_plane s ca ∷ []) x) i.2 in
    let v = and_parts (not (is_positive (value_at (times_plane s bc) x))) (none_positive (times_plane s ca ∷ []) x) u.1 in
    let w = and_parts (not (is_positive (value_at (times_plane s ca) x))) true v.1 in
    let eab : (s *ℤ value_at ab x) ≤ℤ pos 0 = let q = not_positive_out (value_at (times_plane s ab) x) u.0 in let r =
    value_times s ab x in omega (arith, linear, q, r) in
    let ebc : (s *ℤ value_at bc x) ≤ℤ pos 0 = let q = not_positive_out (value_at (times_plane s bc) x) v.0 in let r =
    value_times s bc x in omega (arith, linear, q, r) in
    let eca : (s *ℤ value_at ca x) ≤ℤ pos 0 = let q = not_positive_out (value_at (times_plane s ca) x) w.0 in let r =
    value_times s ca x in omega (arith, linear, q, r) in
    let l : pos 0 <ℤ (s *ℤ along n k) = let q = size_positive (along n k) (main_entry t nf) in let r = size-is (along n k) in omega (arith, linear, q, r) in
    weighed (along n k) s (value_at p x) (value_at bc x) (value_at ca x) (value_at ab x)
    (value_at p (spot_of_corner t.a)) (value_at p (spot_of_corner t.b)) (value_at p (spot_of_corner t.c)) (along p k)
    (value_at n x) l ebc eca eab ha hb hc i.1 (by_corners t p x k)
