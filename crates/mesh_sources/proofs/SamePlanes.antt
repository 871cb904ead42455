-- Planes with the same points have the same mark
use Rattle.std.proofs.Common.{◌≡◌, ◌≢◌, sym, ap, ◌∙◌, subst, arith, [], ◌∷◌, ℕ, ℤ, pos, negsuc, ◌*ℤ◌, neg_ℤ, ◌<ℤ◌, unsigned_abs}
use Rattle.std.specs.Int.{◌∣◌}
use Rattle.ember_algebra.specs.Vector.{Vector, scale_v, dot}
use Rattle.ember_algebra.proofs.Laws.{linear, neg-*ℤ, *ℤ-neg, from_two}
use Rattle.ember_algebra.proofs.Order.{by_sign}
use Rattle.ember_algebra.proofs.Ring.{◌⊕◌, ◌⊖◌, ◌⊗◌, ◌≈◌, num, cancels}
use Rattle.ember_algebra.proofs.Vectors.{scalar, vector, tuple, identity, dotE, minusE, scaleE, square_positive}
use Rattle.ember_algebra.proofs.Identities.{orthogonal_parallel}
use Rattle.ember_algebra.proofs.Numbers.{unsigned_abs-neg}
use Rattle.ember_model.specs.declared.plane.Plane.{Plane}
use Rattle.ember_model.specs.declared.point.Corner.{Corner}
use Rattle.ember_model.specs.declared.tri.Tri.{Tri}
use Rattle.ember_model.specs.Planes.{value_at, vector_of, vector_between, support_of, opposite}
use Rattle.ember_model.specs.Edges.{normal}
use Rattle.ember_model.proofs.Tuples.{plane_tuple, normalE, same_plane}
use Rattle.mesh_certificate.specs.Key.Divisors.{AreLowest}
use Rattle.mesh_certificate.specs.Key.PlaneKeys.{coefficients, IsSameOriented, IsPlaneKey}
use Rattle.mesh_certificate.proofs.PlaneLaws.{plane_keys_decide}
use Rattle.mesh_certificate.proofs.Vectors.{parallel_multiple}
use Rattle.mesh_sources.specs.Marks.{mixed, HasMark}
use Rattle.mesh_sources.specs.Places.{spot_at, spots_in_order, AreOn, facing}

-- ---- the plane with the opposite front
entry_turned : (f q a b : ℤ) → f *ℤ a ≡ q *ℤ b → f *ℤ neg_ℤ a ≡ q *ℤ neg_ℤ b
entry_turned f q a b e = *ℤ-neg f a ∙ ap neg_ℤ e ∙ sym (*ℤ-neg q b)

opposite_same : {s l : Plane} → IsSameOriented s l → IsSameOriented (opposite s) (opposite l)
opposite_same {s} {l} h =
    record {
      of_p = h.of_p;
      of_q = h.of_q;
      positive_p = h.positive_p;
      positive_q = h.positive_q;
      same =
          same_plane (entry_turned h.of_p h.of_q s.a l.a (ap (λ (p : Plane). p.a) h.same))
          (entry_turned h.of_p h.of_q s.b l.b (ap (λ (p : Plane). p.b) h.same))
          (entry_turned h.of_p h.of_q s.c l.c (ap (λ (p : Plane). p.c) h.same))
          (entry_turned h.of_p h.of_q s.d l.d (ap (λ (p : Plane). p.d) h.same));
    }

divides_turned : (k : ℕ) (z : ℤ) → k ∣ unsigned_abs (neg_ℤ z) → k ∣ unsigned_abs z
divides_turned k z h = subst (λ (n : ℕ). k ∣ n) (unsigned_abs-neg z) h

lowest_turned : (l : Plane) → AreLowest (coefficients l) → AreLowest (coefficients (opposite l))
lowest_turned l h =
    record { lowest = λ k d. h.lowest k (divides_turned k l.a d.0, (divides_turned k l.b d.1.0, (divides_turned k l.c d.1.1.0, (divides_turned k l.d d.1.1.1.0, tt)))) }

opposite_key : {s l : Plane} → IsPlaneKey s l → IsPlaneKey (opposite s) (opposite l)
opposite_key {s} {l} h =
    record {
      same = opposite_same h.same;
      lowest = λ n. lowest_turned l (h.lowest (λ e. n (ap opposite e)));
    }

mixed_turned : (l : Plane) → mixed (opposite l) ≡ neg_ℤ (mixed l)
mixed_turned l = omega (arith, linear)

-- ---- a plane, and that of a triangle which lies in it
on_between : (p : Plane) (a b : Corner) → value_at p (spot_at a) ≡ pos 0 → value_at p (spot_at b) ≡ pos 0 →
    dot (normal p) (vector_between a b) ≡ pos 0
on_between p a b ea eb =
    from_two (pos 1) (negsuc 0) eb ea
    (identity (tuple ∷ vector ∷ vector ∷ []) (λ p a b. dotE (normalE p) (minusE b a) ⊖ num (pos 0) ≈ num (pos 1) ⊗
    (dotE (normalE p) b ⊖ p.w ⊗ num (pos 1) ⊖ num (pos 0)) ⊕ num (negsuc 0) ⊗
    (dotE (normalE p) a ⊖ p.w ⊗ num (pos 1) ⊖ num (pos 0))) cancels (plane_tuple p) (vector_of a) (vector_of b))

constant_on : (p : Plane) (a : Corner) → value_at p (spot_at a) ≡ pos 0 → dot (normal p) (vector_of a) ≡ p.d
constant_on p a e = omega (arith, linear, e)

scaled_dot : (k : ℤ) (u v : Vector) → dot (scale_v k u) v ≡ k *ℤ dot u v
scaled_dot =
    identity (scalar ∷ vector ∷ vector ∷ []) (λ k u v. dotE (scaleE k u) v ≈ k ⊗ dotE u v) cancels

module _ (p : Plane) (t : Tri) (on : AreOn p (spots_in_order t)) where
  abbrev s : Plane
  s = support_of t

  abbrev square : ℤ
  square = dot (normal p) (normal p)

  multiple : scale_v (facing p t) (normal p) ≡ scale_v square (normal s)
  multiple =
      parallel_multiple (normal p) (normal s)
      (orthogonal_parallel (normal p) (vector_between t.a t.b) (vector_between t.a t.c) (on_between p t.a t.b on.0 on.1)
      (on_between p t.a t.c on.0 on.2))

  constants : facing p t *ℤ p.d ≡ square *ℤ s.d
  constants =
      ap (λ (z : ℤ). facing p t *ℤ z) (sym (constant_on p t.a on.0))
      ∙ sym (scaled_dot (facing p t) (normal p) (vector_of t.a))
      ∙ ap (λ (v : Vector). dot v (vector_of t.a)) multiple
      ∙ scaled_dot square (normal s) (vector_of t.a)

  square_is_positive : facing p t ≢ pos 0 → pos 0 <ℤ square
  square_is_positive n =
      square_positive (normal p) (λ e. n (ap (λ (v : Vector). dot v (normal s)) e ∙ omega (arith, linear, zero_times (normal s).x, zero_times (normal s).y, zero_times (normal s).z)))
    where
      zero_times : (z : ℤ) → pos 0 *ℤ z ≡ pos 0
      zero_times z = omega (arith, linear)

  same_front : pos 0 <ℤ facing p t → IsSameOriented p s
  same_front l =
      record {
        of_p = facing p t;
        of_q = square;
        positive_p = l;
        positive_q = square_is_positive (λ e. omega (arith, linear, l, e));
        same =
            same_plane (ap (λ (v : Vector). v.x) multiple) (ap (λ (v : Vector). v.y) multiple) (ap (λ (v : Vector). v.z) multiple) constants;
      }

  turned_entry : (a b : ℤ) → facing p t *ℤ a ≡ square *ℤ b → neg_ℤ (facing p t) *ℤ a ≡ square *ℤ neg_ℤ b
  turned_entry a b e = neg-*ℤ (facing p t) a ∙ ap neg_ℤ e ∙ sym (*ℤ-neg square b)

  other_front : facing p t <ℤ pos 0 → IsSameOriented p (opposite s)
  other_front l =
      record {
        of_p = neg_ℤ (facing p t);
        of_q = square;
        positive_p = omega (arith, linear, l);
        positive_q = square_is_positive (λ e. omega (arith, linear, l, e));
        same =
            same_plane (turned_entry p.a s.a (ap (λ (v : Vector). v.x) multiple)) (turned_entry p.b s.b (ap (λ (v : Vector). v.y) multiple))
            (turned_entry p.c s.c (ap (λ (v : Vector). v.z) multiple)) (turned_entry p.d s.d constants);
      }

  -- a triangle with an area that lies in the plane p has p's mark
  pub same_mark : (m n : ℤ) → facing p t ≢ pos 0 → HasMark p m → HasMark s n → m ≡ n
  same_mark m n area hp hs = by_sign (facing p t) (λ l. there l) (λ z. absurd (area z)) (λ l. back l)
    where
      there : pos 0 <ℤ facing p t → m ≡ n
      there l =
          hp.is ∙ ap (λ (k : Plane). pos (unsigned_abs (mixed k))) ((plane_keys_decide hp.is_key hs.is_key).1 (same_front l))
          ∙ sym hs.is

      back : facing p t <ℤ pos 0 → m ≡ n
      back l =
          hp.is
          ∙ ap (λ (k : Plane). pos (unsigned_abs (mixed k)))
          ((plane_keys_decide hp.is_key (opposite_key hs.is_key)).1 (other_front l))
          ∙ ap pos (ap unsigned_abs (mixed_turned hs.key) ∙ unsigned_abs-neg (mixed hs.key)) ∙ sym hs.is
