-- Triangles in the plane of a face: their edge planes aren't plane_over_face_is_parallel to it, so what isn't cut by
-- them lies inside such a triangle if one of its points lies in the closed face.
use Rattle.std.proofs.Common.{◌≡◌, ◌≢◌, ⊎_elim, sym, ap, subst, ◌∙◌, arith, true, false, not, ◌&&◌, [], ◌∷◌, ℤ, pos, ◌*ℤ◌, neg_ℤ, ◌<ℤ◌, ◌≤ℤ◌}
use borrow.Author.Differences.{ints}
use Rattle.std.proofs.lemmas.Bool.{and_parts}
use Rattle.ember_algebra.specs.Vector.{Vector, dot, cross}
use Rattle.ember_algebra.specs.Sign.{sign, is_positive, is_zero}
use Rattle.ember_algebra.proofs.Laws.{linear}
use Rattle.ember_algebra.proofs.Order.{by_sign, zero_product, zero_from_sign}
use Rattle.ember_algebra.proofs.Ring.{◌⊕◌, ◌⊖◌, ◌⊗◌, ◌≈◌, num, neg, solve, cancels}
use Rattle.ember_algebra.proofs.Vectors.{vector, identity, dotE, crossE, minusE}
use Rattle.ember_algebra.proofs.Identities.{dot_zero, orthogonal_parallel}
use Rattle.ember_model.specs.declared.plane.Plane.{Plane}
use Rattle.ember_model.specs.declared.point.Spot.{Spot}
use Rattle.ember_model.specs.declared.point.Axis.{Axis}
use Rattle.ember_model.specs.declared.point.Corner.{Corner}
use Rattle.ember_model.specs.declared.tri.Tri.{Tri}
use Rattle.ember_model.specs.declared.face.Face.{Face}
use Rattle.ember_model.specs.Planes.{vector_of, unit, value_at, along, main_axis, times_plane, support_of, edge_through, vector_between, HasNoNormal}
use Rattle.ember_model.specs.Faces.{is_inside, is_in_closed, is_flat, face_of, Everywhere, Cuts}
use Rattle.ember_model.specs.Owners.{spot_of_corner, lies_in_plane_of, is_coplanar}
use Rattle.ember_model.specs.ClearTest.{none_positive}
use Rattle.ember_model.proofs.SignTests.{clash, negative_in, positive_in, not_positive_out, not_true, zero_out}
use Rattle.ember_model.proofs.PlaneValues.{along_dot}
use Rattle.ember_model.proofs.Hits.{inside_on, inside_parts, closed_parts}
use Rattle.ember_model.specs.Edges.{normal}
use Rattle.ember_law.proofs.FlatTriangles.{flat_in}
use Rattle.ember_law.proofs.CornerSides.{main_entry}
use Rattle.ember_trace.proofs.Corners.{Parallel, no_entry}
use Rattle.ember_trace.proofs.SegmentSigns.{edge_level}
use Rattle.ember_trace.proofs.FilledFaces.{uncut_flat}
use Rattle.ember_trace.proofs.FlatPlanes.{plane_over_face_is_parallel, shared, corner_a}

-- ---- the planes of coplanar triangles
pub record OnPlane (t u : Tri) : Type 0 where
  pub a : value_at (support_of t) (spot_of_corner u.a) ≡ pos 0
  pub b : value_at (support_of t) (spot_of_corner u.b) ≡ pos 0
  pub c : value_at (support_of t) (spot_of_corner u.c) ≡ pos 0
  pub normal_t : is_flat t ≡ false
  pub normal_u : is_flat u ≡ false

-- a coplanar triangle lies on the plane
pub on_plane : (t u : Tri) → is_coplanar t u ≡ true → OnPlane t u
unfolding is_coplanar
on_plane t u e =
    let p = and_parts (not (is_flat t)) (not (is_flat u) && lies_in_plane_of t u) e in let q = and_parts (not (is_flat u)) (lies_in_plane_of t u) p.1 in
    let s = support_of t in
    let r = and_parts (is_zero (value_at s (spot_of_corner u.a)))
    (is_zero (value_at s (spot_of_corner u.b)) && is_zero (value_at s (spot_of_corner u.c))) q.1 in
    let o = and_parts (is_zero (value_at s (spot_of_corner u.b))) (is_zero (value_at s (spot_of_corner u.c))) r.1 in
    record {
      a = zero_out (value_at s (spot_of_corner u.a)) r.0;
      b = zero_out (value_at s (spot_of_corner u.b)) o.0;
      c =
          zero_out (value_at s (spot_of_corner u.c)) o.1;
      normal_t = not_true (is_flat t) p.0;
      normal_u =
          not_true (is_flat u) q.0;
    }

-- along the plane between two of its corners
along_plane : (n : Plane) (u v : Corner) → value_at n (spot_of_corner u) ≡ pos 0 →
    value_at n (spot_of_corner v) ≡ pos 0 → dot (normal n) (vector_between u v) ≡ pos 0
along_plane n u v e h =
    let i = solve 10 (λ a b c d x y z r s t. a ⊗ (r ⊖ x) ⊕ b ⊗ (s ⊖ y) ⊕ c ⊗ (t ⊖ z) ≈
    (a ⊗ r ⊕ b ⊗ s ⊕ c ⊗ t ⊖ d ⊗ num (pos 1)) ⊖ (a ⊗ x ⊕ b ⊗ y ⊕ c ⊗ z ⊖ d ⊗ num (pos 1))) cancels n.a n.b n.c n.d u.x
    u.y u.z v.x v.y v.z in
    omega (arith, linear, i, e, h)

parallel_planes : (t u : Tri) → OnPlane t u → Parallel (support_of t) (support_of u)
parallel_planes t u o =
    let z = orthogonal_parallel (normal (support_of t)) (vector_between u.a u.b) (vector_between u.a u.c)
    (along_plane (support_of t) u.a u.b o.a o.b) (along_plane (support_of t) u.a u.c o.a o.c) in
    record { x = ap (λ (v : Vector). v.x) z; y = ap (λ (v : Vector). v.y) z; z = ap (λ (v : Vector). v.z) z }

turned : {n p : Plane} → Parallel n p → Parallel p n
turned {n} {p} l =
    let x = l.x in let y = l.y in let z = l.z in
    record {
      x = omega (arith, linear, x, solve 4 (λ a b c d. a ⊗ b ⊖ c ⊗ d ≈ neg (d ⊗ c ⊖ b ⊗ a)) cancels p.b n.c p.c n.b);
      y = omega (arith, linear, y, solve 4 (λ a b c d. a ⊗ b ⊖ c ⊗ d ≈ neg (d ⊗ c ⊖ b ⊗ a)) cancels p.c n.a p.a n.c);
      z = omega (arith, linear, z, solve 4 (λ a b c d. a ⊗ b ⊖ c ⊗ d ≈ neg (d ⊗ c ⊖ b ⊗ a)) cancels p.a n.b p.b n.a);
    }

-- a point of the plane of t lies on that of u
on_other : (t u : Tri) (w : Spot) → is_coplanar t u ≡ true → value_at (support_of t) w ≡ pos 0 → value_at (support_of u) w ≡ pos 0
on_other t u w e z =
    let o = on_plane t u e in
    shared (support_of u) (support_of t) (spot_of_corner u.a) w (turned (parallel_planes t u o)) (omega (arith, ints))
    (corner_a u) o.a z (λ a b c. clash (flat_in t (record { a = a; b = b; c = c })) o.normal_t)

-- ---- the edge planes of u along its main axis
module _ (u : Tri) (k : Axis) (nz : along (support_of u) k ≢ pos 0) where
  sign_some : sign (along (support_of u) k) ≢ pos 0
  sign_some z = nz (zero_from_sign (along (support_of u) k) z)

  without : (g : Plane) → HasNoNormal (times_plane (sign (along (support_of u) k)) g) → HasNoNormal g
  without g h = (factor g.a h.0, factor g.b h.1, factor g.c h.2)
    where
      factor : (x : ℤ) → sign (along (support_of u) k) *ℤ x ≡ pos 0 → x ≡ pos 0
      factor x e = ⊎_elim (λ z. absurd (sign_some z)) (λ z. z) (zero_product e)

  first_edge : HasNoNormal (edge_through u.a u.b (unit k)) → ⊥
  first_edge h =
      nz (along_dot (support_of u) k ∙ identity (vector ∷ vector ∷ vector ∷ vector ∷ [])
      (λ a b c f. dotE (crossE (minusE b a) (minusE c a)) f ≈ neg (dotE (minusE c a) (crossE (minusE b a) f))) cancels
      (vector_of u.a) (vector_of u.b) (vector_of u.c) (unit k)
      ∙ ap neg_ℤ (dot_zero (vector_between u.a u.c) (cross (vector_between u.a u.b) (unit k)) h.0 h.1 h.2))

  second_edge : HasNoNormal (edge_through u.b u.c (unit k)) → ⊥
  second_edge h =
      nz (along_dot (support_of u) k ∙ identity (vector ∷ vector ∷ vector ∷ vector ∷ [])
      (λ a b c f. dotE (crossE (minusE b a) (minusE c a)) f ≈ dotE (minusE b a) (crossE (minusE c b) f)) cancels
      (vector_of u.a) (vector_of u.b) (vector_of u.c) (unit k)
      ∙ dot_zero (vector_between u.a u.b) (cross (vector_between u.b u.c) (unit k)) h.0 h.1 h.2)

  third_edge : HasNoNormal (edge_through u.c u.a (unit k)) → ⊥
  third_edge h =
      nz (along_dot (support_of u) k ∙ identity (vector ∷ vector ∷ vector ∷ vector ∷ [])
      (λ a b c f. dotE (crossE (minusE b a) (minusE c a)) f ≈ neg (dotE (minusE b a) (crossE (minusE a c) f))) cancels
      (vector_of u.a) (vector_of u.b) (vector_of u.c) (unit k)
      ∙ ap neg_ℤ (dot_zero (vector_between u.a u.b) (cross (vector_between u.c u.a) (unit k)) h.0 h.1 h.2))

-- a plane that doesn't cut a face, nor holds it, and isn't positive at a point, is negative on it
one_side : (f : Face) (h : Plane) (v w : Spot) → (Cuts f h → ⊥) → (Everywhere f (λ x. value_at h x ≡ pos 0) → ⊥) →
    is_inside f v ≡ true → value_at h v ≤ℤ pos 0 → is_inside f w ≡ true → value_at h w <ℤ pos 0
one_side f h v w uncut off iv lv iw =
    by_sign (value_at h w) (λ l. absurd (uncut (record {
      some_below =
          record {
            at = v;
            inside = iv;
            holds = negative_in
                (strict (value_at h v) lv (λ z. off (uncut_flat f h uncut v iv z)));
          };
      some_above =
          record { at = w; inside = iw; holds = positive_in l };
    }))) (λ z. absurd (off (uncut_flat f h uncut w iw z)))
    (λ l. l)
  where
    strict : (x : ℤ) → x ≤ℤ pos 0 → (x ≡ pos 0 → ⊥) → x <ℤ pos 0
    strict x l n = by_sign x (λ p. absurd (omega (arith, linear, p, l))) (λ z. absurd (n z)) (λ p. p)

-- what isn't cut by the edge planes of a coplanar triangle lies inside it if one point lies in
-- its closed face
pub shared_inside : (t u : Tri) (f : Face) (v w : Spot) → f.support ≡ support_of t → is_coplanar t u ≡ true →
    (Cuts f (times_plane (sign (along (support_of u) (main_axis (support_of u))))
    (edge_through u.a u.b (unit (main_axis (support_of u))))) → ⊥) →
    (Cuts f (times_plane (sign (along (support_of u) (main_axis (support_of u))))
    (edge_through u.b u.c (unit (main_axis (support_of u))))) → ⊥) →
    (Cuts f (times_plane (sign (along (support_of u) (main_axis (support_of u))))
    (edge_through u.c u.a (unit (main_axis (support_of u))))) → ⊥) → is_inside f v ≡ true →
    is_in_closed (face_of u) v ≡ true → is_inside f w ≡ true → is_inside (face_of u) w ≡ true
unfolding face_of
shared_inside t u f v w s e xa xb xc iv cv iw =
    let o = on_plane t u e in let k = main_axis (support_of u) in let g = sign (along (support_of u) k) in
    let ea = edge_through u.a u.b (unit k) in let eb = edge_through u.b u.c (unit k) in let ec = edge_through u.c u.a (unit k) in
    let nz = main_entry u o.normal_u in
    let c = closed_parts (face_of u) v cv in
    let p = and_parts (not (is_positive (value_at (times_plane g ea) v))) (none_positive (times_plane g eb ∷ times_plane g ec ∷ []) v) c.2 in
    let q = and_parts (not (is_positive (value_at (times_plane g eb) v))) (none_positive (times_plane g ec ∷ []) v) p.1 in
    let r = and_parts (not (is_positive (value_at (times_plane g ec) v))) true q.1 in
    let across : along (support_of t) k ≢ pos 0 = λ z. let l =
    no_entry (support_of u) (support_of t) k (turned (parallel_planes t u o)) nz z in
    clash (flat_in t (record { a = l.0; b = l.1; c = l.2 })) o.normal_t in
    let level = λ (h : Plane) (z : along h k ≡ pos 0) (y : Everywhere f (λ x. value_at h x ≡ pos 0)). no_entry
    (support_of t) h k (subst (λ (n : Plane). Parallel n h) s (plane_over_face_is_parallel f h v iv y)) across z in
    let na = negative_in (one_side f (times_plane g ea) v w xa
    (λ y. first_edge u k nz (without u k nz ea (level (times_plane g ea) (edge_level g u.a u.b k) y))) iv
    (not_positive_out (value_at (times_plane g ea) v) p.0) iw) in
    let nb = negative_in (one_side f (times_plane g eb) v w xb
    (λ y. second_edge u k nz (without u k nz eb (level (times_plane g eb) (edge_level g u.b u.c k) y))) iv
    (not_positive_out (value_at (times_plane g eb) v) q.0) iw) in
    let nc = negative_in (one_side f (times_plane g ec) v w xc
    (λ y. third_edge u k nz (without u k nz ec (level (times_plane g ec) (edge_level g u.c u.a k) y))) iv
    (not_positive_out (value_at (times_plane g ec) v) r.0) iw) in
    let i = inside_parts f w iw in
    inside_on (face_of u) w (positive_in i.0) (on_other t u w e (sym (ap (λ (n : Plane). value_at n w) s) ∙ i.1)) ∙ (λ j. na j && (nb j && (nc j && true)))
