-- Oriented planes: multiples, sides, and keys.
use Rattle.std.proofs.Common.{◌≡◌, ◌≢◌, ◌↔◌, [], ◌∷◌, ℤ, pos, negsuc, ◌+ℤ◌, ◌-ℤ◌, ◌*ℤ◌, ◌<ℤ◌, ◌≤ℤ◌, ℕ, zero, suc, ◌≤◌}
use Rattle.std.proofs.Common.{unsigned_abs, T, refl, sym, ap, subst, ◌∙◌, arith}
use lib.IntN.{*ℤ-zero, *ℤ_comm}
use Rattle.std.proofs.lemmas.Int.{ints}
use Rattle.ember_algebra.specs.declared.Sign.{Sign}
use Rattle.ember_algebra.specs.Sign.{sgn, times, is_nil, is_pos}
use Rattle.ember_algebra.specs.Vector.{Vector, zero_v, dot, cross}
use Rattle.ember_algebra.proofs.Laws.{linear, one-*ℤ, from_one, from_two}
use Rattle.ember_algebra.proofs.Order.{by_sign, pos_mul, cancel_eq}
use Rattle.ember_algebra.proofs.Ring.{◌⊕◌, ◌⊖◌, ◌⊗◌, ◌≈◌, num, solve, cancels}
use Rattle.ember_algebra.proofs.Signs.{sgn-mul, sgn_pos, zero_from_sgn, pos_from_sgn}
use Rattle.ember_algebra.proofs.Vectors.{tuple, identity, dotE, crossE, square_positive}
use Rattle.ember_model.specs.declared.plane.Plane.{Plane}
use Rattle.ember_model.specs.declared.point.Spot.{Spot}
use Rattle.ember_model.specs.Edges.{normal}
use Rattle.ember_model.specs.Planes.{value_at, times_plane, zero_plane}
use Rattle.ember_model.proofs.Tuples.{plane_tuple, normalE, same_plane}
use Rattle.ember_model.specs.Valid.{IsValidPlane}
use Rattle.ember_width.specs.Broad.{IsBroadPlane}
use Rattle.ember_algebra.specs.Size.{Small}
use Rattle.ember_model.proofs.SignTests.{positive_nonzero}
use Rattle.ember_model.proofs.PlaneValues.{value_times}
use Rattle.mesh_certificate.specs.Key.Divisors.{Divides, IsGreatestDivisor, AreLowest}
use Rattle.mesh_certificate.specs.Key.PlaneKeys.{coefficients, IsSameOriented, IsPlaneKey, HaveSameSides, HasNormal}
use Rattle.mesh_certificate.proofs.Divisors.{factors_have_one_size, quotients_are_lowest, lowest_where_one, all_zero}
use Rattle.mesh_certificate.proofs.Quotients.{size_positive, quotient_small}
use Rattle.mesh_certificate.proofs.Vectors.{no_square_no_vector, parallel_multiple}

-- ---- sides
-- a positive factor doesn't change the sign
pub sgn_times : (j z : ℤ) → pos 0 <ℤ j → sgn (j *ℤ z) ≡ sgn z
sgn_times j z l = sgn-mul j z ∙ ap (λ (s : Sign). times s (sgn z)) (sgn_pos l)

-- each point is on the same side of a plane and of its multiple
pub same_oriented_sides : {p q : Plane} → IsSameOriented p q → (v : Spot) → sgn (value_at p v) ≡ sgn (value_at q v)
same_oriented_sides {p} {q} h v =
    sym (sgn_times h.of_p (value_at p v) h.positive_p)
    ∙ ap sgn (sym (value_times h.of_p p v) ∙ ap (λ (r : Plane). value_at r v) h.same ∙ value_times h.of_q q v)
    ∙ sgn_times h.of_q (value_at q v) h.positive_q

-- ---- one oriented plane: an equivalence
same_oriented_swap : {p q : Plane} → IsSameOriented p q → IsSameOriented q p
same_oriented_swap h =
    record { of_p = h.of_q; of_q = h.of_p; positive_p = h.positive_q; positive_q = h.positive_p; same = sym h.same }

link : (a b c d : ℤ) (x y z : ℤ) → a *ℤ x ≡ b *ℤ y → c *ℤ y ≡ d *ℤ z → (a *ℤ c) *ℤ x ≡ (b *ℤ d) *ℤ z
link a b c d x y z h k =
    from_two c b h k (solve 7 (λ a b c d x y z. (a ⊗ c) ⊗ x ⊖ (b ⊗ d) ⊗ z ≈ c ⊗ (a ⊗ x ⊖ b ⊗ y) ⊕ b ⊗ (c ⊗ y ⊖ d ⊗ z)) cancels a b c d x y z)

same_oriented_link : {p q r : Plane} → IsSameOriented p q → IsSameOriented q r → IsSameOriented p r
same_oriented_link {p} {q} {r} h k =
    record {
      of_p = h.of_p *ℤ k.of_p;
      of_q = h.of_q *ℤ k.of_q;
      positive_p =
          pos_mul h.positive_p k.positive_p;
      positive_q = pos_mul h.positive_q k.positive_q;
      same =
          same_plane (by p.a q.a r.a (ap (λ (p : Plane). p.a) h.same) (ap (λ (p : Plane). p.a) k.same))
          (by p.b q.b r.b (ap (λ (p : Plane). p.b) h.same) (ap (λ (p : Plane). p.b) k.same))
          (by p.c q.c r.c (ap (λ (p : Plane). p.c) h.same) (ap (λ (p : Plane). p.c) k.same))
          (by p.d q.d r.d (ap (λ (p : Plane). p.d) h.same) (ap (λ (p : Plane). p.d) k.same));
    }
  where
    by : (x y z : ℤ) → h.of_p *ℤ x ≡ h.of_q *ℤ y → k.of_p *ℤ y ≡ k.of_q *ℤ z → (h.of_p *ℤ k.of_p) *ℤ x ≡ (h.of_q *ℤ k.of_q) *ℤ z
    by x y z = link h.of_p h.of_q k.of_p k.of_q x y z

same_oriented_self : (p : Plane) → IsSameOriented p p
same_oriented_self p = record { of_p = pos 1; of_q = pos 1; positive_p = omega (arith, ints); positive_q = omega (arith, ints); same = refl }

-- ---- a plane of four zeros
zero_entry : (a b x y : ℤ) → pos 0 <ℤ b → a *ℤ x ≡ b *ℤ y → x ≡ pos 0 → y ≡ pos 0
zero_entry a b x y l e z =
    cancel_eq (positive_nonzero l) (sym e ∙ ap (λ (n : ℤ). a *ℤ n) z ∙ *ℤ-zero a ∙ sym (*ℤ-zero b))

zero_same_oriented : {p q : Plane} → IsSameOriented p q → p ≡ zero_plane → q ≡ zero_plane
zero_same_oriented {p} {q} h z =
    same_plane (zero_entry h.of_p h.of_q p.a q.a h.positive_q (ap (λ (p : Plane). p.a) h.same)
    (ap (λ (p : Plane). p.a) z)) (zero_entry h.of_p h.of_q p.b q.b h.positive_q (ap (λ (p : Plane). p.b) h.same)
    (ap (λ (p : Plane). p.b) z)) (zero_entry h.of_p h.of_q p.c q.c h.positive_q (ap (λ (p : Plane). p.c) h.same)
    (ap (λ (p : Plane). p.c) z)) (zero_entry h.of_p h.of_q p.d q.d h.positive_q (ap (λ (p : Plane). p.d) h.same)
    (ap (λ (p : Plane). p.d) z))

by_zero_plane : {P : Type 0} (p : Plane) → (p ≡ zero_plane → P) → (p ≢ zero_plane → P) → P
by_zero_plane {P} p f g =
    test p.a (λ a. test p.b (λ b. test p.c (λ c. test p.d (λ d. f (same_plane a b c d))
    (λ n. g (λ e. n (ap (λ (p : Plane). p.d) e)))) (λ n. g (λ e. n (ap (λ (p : Plane). p.c) e))))
    (λ n. g (λ e. n (ap (λ (p : Plane). p.b) e)))) (λ n. g (λ e. n (ap (λ (p : Plane). p.a) e)))
  where
    test : (z : ℤ) → (z ≡ pos 0 → P) → (z ≢ pos 0 → P) → P
    test z s n = by_sign z (λ p. n (positive_nonzero p)) s (λ p. n (λ e. omega (arith, linear)))

-- ---- keys
-- multiples of one size by positive factors are equal
cancel_size : (a b x y : ℤ) → pos 0 <ℤ a → pos 0 <ℤ b → unsigned_abs a ≡ unsigned_abs b → a *ℤ x ≡ b *ℤ y → x ≡ y
cancel_size a b x y pa pb s e =
    let same : a ≡ b = omega (arith, ints) in
    cancel_eq (positive_nonzero pb) (ap (λ (n : ℤ). n *ℤ x) (sym same) ∙ e)

lowest_same_oriented : {k l : Plane} → IsSameOriented k l → AreLowest (coefficients k) → AreLowest (coefficients l) → k ≡ l
lowest_same_oriented {k} {l} h lk ll =
    same_plane (by k.a l.a (ap (λ (p : Plane). p.a) h.same)) (by k.b l.b (ap (λ (p : Plane). p.b) h.same))
    (by k.c l.c (ap (λ (p : Plane). p.c) h.same)) (by k.d l.d (ap (λ (p : Plane). p.d) h.same))
  where
    size : unsigned_abs h.of_p ≡ unsigned_abs h.of_q
    size =
        factors_have_one_size h.of_p h.of_q (coefficients k) (coefficients l) (
          ap (λ (p : Plane). p.a) h.same,
          (ap (λ (p : Plane). p.b) h.same, (ap (λ (p : Plane). p.c) h.same, (ap (λ (p : Plane). p.d) h.same, tt))),
        ) lk
        ll

    by : (x y : ℤ) → h.of_p *ℤ x ≡ h.of_q *ℤ y → x ≡ y
    by x y e = cancel_size h.of_p h.of_q x y h.positive_p h.positive_q size e

-- the keys of one oriented plane are equal, and only these
pub plane_keys_decide : {p q k l : Plane} → IsPlaneKey p k → IsPlaneKey q l → (k ≡ l) ↔ IsSameOriented p q
plane_keys_decide {p} {q} {k} {l} hp hq = (
  λ e. same_oriented_link hp.same (subst (λ (r : Plane). IsSameOriented r q) (sym e) (same_oriented_swap hq.same)),
  λ h. by_zero_plane p (λ z. zero_same_oriented hp.same z
      ∙ sym (zero_same_oriented hq.same (zero_same_oriented h z)))
      (λ n. lowest_same_oriented (same_oriented_link (same_oriented_swap hp.same) (same_oriented_link h hq.same))
      (hp.lowest n) (hq.lowest (λ z. n (zero_same_oriented (same_oriented_swap h) z)))),
)

-- ---- planes with the same sides
-- the points of p nearest to the origin, moved by a vector, with the weight n · n
abbrev moved_foot : Plane → Vector → Spot
moved_foot p u = record { x = p.d *ℤ p.a +ℤ u.x; y = p.d *ℤ p.b +ℤ u.y; z = p.d *ℤ p.c +ℤ u.z; w = dot (normal p) (normal p) }

module _ (p q : Plane) (has : HasNormal p) (same : HaveSameSides p q) where
  weight : pos 0 <ℤ dot (normal p) (normal p)
  weight = square_positive (normal p) has

  none_of_none : (v : Spot) → pos 0 <ℤ v.w → value_at p v ≡ pos 0 → value_at q v ≡ pos 0
  none_of_none v l e = zero_from_sgn (value_at q v) (subst (λ (s : Sign). T (is_nil s)) (sym (ap sgn e) ∙ same v l) tt)

  pos_of_pos : (v : Spot) → pos 0 <ℤ v.w → pos 0 <ℤ value_at p v → pos 0 <ℤ value_at q v
  pos_of_pos v l e = pos_from_sgn (value_at q v) (subst (λ (s : Sign). T (is_pos s)) (sym (sgn_pos e) ∙ same v l) tt)

  foot : value_at q (moved_foot p zero_v) ≡ pos 0
  foot =
      none_of_none (moved_foot p zero_v) weight (identity (tuple ∷ [])
      (λ p. p.x ⊗ (p.w ⊗ p.x ⊕ num (pos 0)) ⊕ p.y ⊗ (p.w ⊗ p.y ⊕ num (pos 0)) ⊕ p.z ⊗ (p.w ⊗ p.z ⊕ num (pos 0)) ⊖ p.w
      ⊗ dotE (normalE p) (normalE p) ≈ num (pos 0)) cancels (plane_tuple p))

  along : value_at q (moved_foot p (cross (cross (normal p) (normal q)) (normal p))) ≡ pos 0
  along =
      none_of_none (moved_foot p (cross (cross (normal p) (normal q)) (normal p))) weight
      (identity (tuple ∷ tuple ∷ []) (λ p q. let u = crossE (crossE (normalE p) (normalE q)) (normalE p) in
      p.x ⊗ (p.w ⊗ p.x ⊕ u.x) ⊕ p.y ⊗ (p.w ⊗ p.y ⊕ u.y) ⊕ p.z ⊗ (p.w ⊗ p.z ⊕ u.z) ⊖ p.w ⊗ dotE (normalE p) (normalE p)
      ≈ num (pos 0)) cancels (plane_tuple p) (plane_tuple q))

  ahead : pos 0 <ℤ value_at q (moved_foot p (normal p))
  ahead =
      pos_of_pos (moved_foot p (normal p)) weight
      (subst (λ (z : ℤ). pos 0 <ℤ z) (identity (tuple ∷ [])
      (λ p. dotE (normalE p) (normalE p) ≈ p.x ⊗ (p.w ⊗ p.x ⊕ p.x) ⊕ p.y ⊗ (p.w ⊗ p.y ⊕ p.y) ⊕ p.z ⊗ (p.w ⊗ p.z ⊕ p.z)
      ⊖ p.w ⊗ dotE (normalE p) (normalE p)) cancels (plane_tuple p)) weight)

  parallel : cross (normal p) (normal q) ≡ zero_v
  parallel =
      let t = cross (normal p) (normal q) in
      no_square_no_vector t (from_two (pos 1) (negsuc 0) along foot
      (identity (tuple ∷ tuple ∷ []) (λ p q. let t = crossE (normalE p) (normalE q) in let u = crossE t (normalE p) in
      let n = dotE (normalE p) (normalE p) in dotE t t ⊖ num (pos 0) ≈ num (pos 1) ⊗
      (q.x ⊗ (p.w ⊗ p.x ⊕ u.x) ⊕ q.y ⊗ (p.w ⊗ p.y ⊕ u.y) ⊕ q.z ⊗ (p.w ⊗ p.z ⊕ u.z) ⊖ q.w ⊗ n ⊖ num (pos 0)) ⊕ num
      (negsuc 0) ⊗ (q.x ⊗ (p.w ⊗ p.x ⊕ num (pos 0)) ⊕ q.y ⊗ (p.w ⊗ p.y ⊕ num (pos 0)) ⊕ q.z ⊗
      (p.w ⊗ p.z ⊕ num (pos 0)) ⊖ q.w ⊗ n ⊖ num (pos 0))) cancels (plane_tuple p) (plane_tuple q)))

  onward : pos 0 <ℤ dot (normal p) (normal q)
  onward =
      let e = identity (tuple ∷ tuple ∷ []) (λ p q. let n = dotE (normalE p) (normalE p) in
      dotE (normalE p) (normalE q) ≈ q.x ⊗ (p.w ⊗ p.x ⊕ p.x) ⊕ q.y ⊗ (p.w ⊗ p.y ⊕ p.y) ⊕ q.z ⊗ (p.w ⊗ p.z ⊕ p.z) ⊖ q.w
      ⊗ n ⊖ (q.x ⊗ (p.w ⊗ p.x ⊕ num (pos 0)) ⊕ q.y ⊗ (p.w ⊗ p.y ⊕ num (pos 0)) ⊕ q.z ⊗ (p.w ⊗ p.z ⊕ num (pos 0)) ⊖ q.w
      ⊗ n)) cancels (plane_tuple p) (plane_tuple q) in
      subst (λ (z : ℤ). pos 0 <ℤ z) (sym e) (above (value_at q (moved_foot p (normal p))) (value_at q (moved_foot p zero_v)) ahead foot)
    where
      above : (a b : ℤ) → pos 0 <ℤ a → b ≡ pos 0 → pos 0 <ℤ (a -ℤ b)
      above a b l e = omega (arith, linear)

  constants : dot (normal p) (normal q) *ℤ p.d ≡ dot (normal p) (normal p) *ℤ q.d
  constants =
      from_one (pos 1) foot (identity (tuple ∷ tuple ∷ []) (λ p q. let n = dotE (normalE p) (normalE p) in
      dotE (normalE p) (normalE q) ⊗ p.w ⊖ n ⊗ q.w ≈ num (pos 1) ⊗
      (q.x ⊗ (p.w ⊗ p.x ⊕ num (pos 0)) ⊕ q.y ⊗ (p.w ⊗ p.y ⊕ num (pos 0)) ⊕ q.z ⊗ (p.w ⊗ p.z ⊕ num (pos 0)) ⊖ q.w ⊗ n ⊖
      num (pos 0))) cancels (plane_tuple p) (plane_tuple q))

  -- planes that each point is on the same side of are one oriented plane
  same_sides_oriented : IsSameOriented p q
  same_sides_oriented =
      let e = parallel_multiple (normal p) (normal q) parallel in
      record {
        of_p = dot (normal p) (normal q);
        of_q = dot (normal p) (normal p);
        positive_p = onward;
        positive_q =
            weight;
        same = same_plane (ap (λ (v : Vector). v.x) e) (ap (λ (v : Vector). v.y) e) (ap (λ (v : Vector). v.z) e)
            constants;
      }

-- planes with a normal have one key exactly if each point is on the same side of both
pub plane_keys_decide_sides : {p q k l : Plane} → IsPlaneKey p k → IsPlaneKey q l → HasNormal p → (k ≡ l) ↔ HaveSameSides p q
plane_keys_decide_sides {p} {q} {k} {l} hp hq has =
    let d = plane_keys_decide hp hq in (λ e v w. same_oriented_sides (d.0 e) v, λ s. d.1 (same_sides_oriented p q has s))

-- ---- the key by a division
by_size : {P : Type 0} (n : ℕ) → n ≤ 1 → (n ≡ 0 → P) → (n ≡ 1 → P) → P
by_size zero l f g = f refl
by_size (suc zero) l f g = g refl
by_size (suc (suc n)) l f g = absurd (omega arith)

-- nothing is to divide if the greatest common divisor is at most 1
pub own_key : (p : Plane) (d : ℤ) → IsGreatestDivisor (coefficients p) (unsigned_abs d) → pos 0 ≤ℤ d → d ≤ℤ pos 1 → IsPlaneKey p p
own_key p d i n l =
    record {
      same = same_oriented_self p;
      lowest =
          λ some. by_size (unsigned_abs d) (omega (arith, ints)) (λ e. let z =
          all_zero (coefficients p) (subst (λ (k : ℕ). Divides k (coefficients p)) e i.divides) in
          absurd (some (same_plane z.0 z.1.0 z.1.1.0 z.1.1.1.0)))
          (λ e. lowest_where_one (coefficients p) (unsigned_abs d) i e);
    }

module _ (p k : Plane) (d : ℤ) (l : pos 0 <ℤ d) (e : times_plane d k ≡ p) where
  a : d *ℤ k.a ≡ p.a
  a = ap (λ (p : Plane). p.a) e

  b : d *ℤ k.b ≡ p.b
  b = ap (λ (p : Plane). p.b) e

  c : d *ℤ k.c ≡ p.c
  c = ap (λ (p : Plane). p.c) e

  constant : d *ℤ k.d ≡ p.d
  constant = ap (λ (p : Plane). p.d) e

  -- a plane divided by the greatest common divisor is its key
  pub divided_key : IsGreatestDivisor (coefficients p) (unsigned_abs d) → IsPlaneKey p k
  divided_key i =
      record {
        same = record {
          of_p = pos 1;
          of_q = d;
          positive_p = omega (arith, ints);
          positive_q = l;
          same =
              same_plane (one-*ℤ p.a ∙ sym a) (one-*ℤ p.b ∙ sym b) (one-*ℤ p.c ∙ sym c) (one-*ℤ p.d ∙ sym constant);
        };
        lowest = λ some. quotients_are_lowest (unsigned_abs d) d (coefficients k) (coefficients p) i refl
            (size_positive d (positive_nonzero l)) (a, (b, (c, (constant, tt))));
      }

  entry_small : {m : ℕ} (x y : ℤ) → d *ℤ x ≡ y → Small m y → Small m x
  entry_small x y e s = quotient_small x d y (positive_nonzero l) (*ℤ_comm x d ∙ e) s

  pub divided_broad : IsBroadPlane p → IsBroadPlane k
  divided_broad v =
      record { a = entry_small k.a p.a a v.a; b = entry_small k.b p.b b v.b; c = entry_small k.c p.c c v.c; d = entry_small k.d p.d constant v.d }

  pub divided_valid : IsValidPlane p → IsValidPlane k
  divided_valid v =
      record { a = entry_small k.a p.a a v.a; b = entry_small k.b p.b b v.b; c = entry_small k.c p.c c v.c; d = entry_small k.d p.d constant v.d }
