-- Triangles whose corners show that they don't meet.
use Rattle.std.proofs.Common.{◌≡◌, ◌⊎◌, ⊎_elim, inl, inr, refl, sym, ap, ◌∙◌, arith, zero, suc, Bool, true, false, not, ◌&&◌, ◌||◌, ℤ, pos, negsuc, ◌<ℤ◌}
use Rattle.std.proofs.lemmas.Bool.{or_cases, and_parts}
use Rattle.ember_algebra.specs.Sign.{is_negative, is_zero, is_positive}
use Rattle.ember_algebra.proofs.Laws.{linear}
use Rattle.ember_algebra.proofs.Booleans.{and_three}
use Rattle.ember_model.specs.declared.plane.Plane.{Plane}
use Rattle.ember_model.specs.declared.point.Spot.{Spot}
use Rattle.ember_model.specs.declared.tri.Tri.{Tri}
use Rattle.ember_model.specs.Planes.{value_at, support_of}
use Rattle.ember_model.specs.Faces.{is_flat, face_of, Meets}
use Rattle.ember_model.specs.Owners.{spot_of_corner}
use Rattle.ember_model.proofs.SignTests.{not_true, negative_out, positive_out, not_positive_out}
use Rattle.ember_model.proofs.SignTests.{not_negative_out, some_positive, some_negative}
use Rattle.ember_poly.specs.Rings.{IsBelow, IsAbove, IsNotAbove, IsNotBelow, IsInsideRing}
use Rattle.ember_poly.specs.Chords.{IsOnOneSide}
use Rattle.ember_poly.proofs.FaceTests.{closed_out}
use Rattle.ember_poly.proofs.OneSide.{one_side_meets_not}
use Rattle.ember_poly.proofs.ReachBySigns.{all_below, all_above}
use Rattle.ember_poly.proofs.TriangleRing.{tri_sides, stands, inside_ring}
use Rattle.ember_width.specs.declared.heights.Heights.{Heights}
use Rattle.ember_width.specs.Heights.{heights_of, all_in_front, all_behind, none_in_front, none_behind, all_on}
use Rattle.ember_pairs.specs.Pairs.{AreMeeting}

-- ---- from tests of heights to facts at the corners
module _ (p : Plane) (t : Tri) where
  abbrev h : Heights
  h = heights_of p t

  one_side : all_in_front (heights_of p t) || all_behind (heights_of p t) ≡ true → IsOnOneSide p t
  one_side e = by (or_cases (all_in_front (heights_of p t)) (all_behind (heights_of p t)) e)
    where
      by : (all_in_front (heights_of p t) ≡ true) ⊎ (all_behind (heights_of p t) ≡ true) → IsOnOneSide p t
      by (inl f) =
          let k = and_three (is_positive h.a) (is_positive h.b) (is_positive h.c) f in
          inl (record { over = positive_out h.a k.a }, record { over = positive_out h.b k.b }, record { over = positive_out h.c k.c })
      by (inr f) =
          let k = and_three (is_negative h.a) (is_negative h.b) (is_negative h.c) f in
          inr (record { under = negative_out h.a k.a }, record { under = negative_out h.b k.b }, record { under = negative_out h.c k.c })

  -- no inside point lies on a plane to one side of which the corners lie
  inside_off : is_flat t ≡ false → (none_in_front (heights_of p t) || none_behind (heights_of p t))
      && not (all_on (heights_of p t)) ≡ true → (v : Spot) → IsInsideRing (support_of t) (tri_sides t) v →
      value_at p v ≡ pos 0 → ⊥
  inside_off n e v i z =
      let q = and_parts (none_in_front (heights_of p t) || none_behind (heights_of p t)) (not (all_on (heights_of p t))) e in
      by (not_true (all_on (heights_of p t)) q.1) (or_cases (none_in_front (heights_of p t)) (none_behind (heights_of p t)) q.0)
    where
      under : (h.a <ℤ pos 0) ⊎ ((h.b <ℤ pos 0) ⊎ (h.c <ℤ pos 0)) → IsNotAbove p (spot_of_corner t.a) →
          IsNotAbove p (spot_of_corner t.b) → IsNotAbove p (spot_of_corner t.c) → IsBelow p v
      under (inl o) a b c = all_below (support_of t) p v (tri_sides t) (stands t n).sound (a, (b, (c, tt))) (inl (record { under = o })) i
      under (inr (inl o)) a b c = all_below (support_of t) p v (tri_sides t) (stands t n).sound (a, (b, (c, tt))) (inr (inl (record { under = o }))) i
      under (inr (inr o)) a b c = all_below (support_of t) p v (tri_sides t) (stands t n).sound (a, (b, (c, tt))) (inr (inr (inl (record { under = o })))) i

      over : (pos 0 <ℤ h.a) ⊎ ((pos 0 <ℤ h.b) ⊎ (pos 0 <ℤ h.c)) → IsNotBelow p (spot_of_corner t.a) →
          IsNotBelow p (spot_of_corner t.b) → IsNotBelow p (spot_of_corner t.c) → IsAbove p v
      over (inl o) a b c = all_above (support_of t) p v (tri_sides t) (stands t n).sound (a, (b, (c, tt))) (inl (record { over = o })) i
      over (inr (inl o)) a b c = all_above (support_of t) p v (tri_sides t) (stands t n).sound (a, (b, (c, tt))) (inr (inl (record { over = o }))) i
      over (inr (inr o)) a b c = all_above (support_of t) p v (tri_sides t) (stands t n).sound (a, (b, (c, tt))) (inr (inr (inl (record { over = o })))) i

      by : all_on (heights_of p t) ≡ false → (none_in_front (heights_of p t) ≡ true) ⊎ (none_behind (heights_of p t) ≡ true) → ⊥
      by f (inl e) =
          let k = and_three (not (is_positive h.a)) (not (is_positive h.b)) (not (is_positive h.c)) e in
          let a = not_positive_out h.a k.a in let b = not_positive_out h.b k.b in let c = not_positive_out h.c k.c in
          let u = under (some_negative h.a h.b h.c a b c f) (record { at_most = a }) (record { at_most = b }) (record { at_most = c }) in
          omega (arith, linear, z, u.under)
      by f (inr e) =
          let k = and_three (not (is_negative h.a)) (not (is_negative h.b)) (not (is_negative h.c)) e in
          let a = not_negative_out h.a k.a in let b = not_negative_out h.b k.b in let c = not_negative_out h.c k.c in
          let o = over (some_positive h.a h.b h.c a b c f) (record { at_least = a }) (record { at_least = b }) (record { at_least = c }) in
          omega (arith, linear, z, o.over)

-- ---- two triangles
-- if the corners of u are strictly on one side of the plane of t
strictly_apart : (t u : Tri) → is_flat u ≡ false →
    all_in_front (heights_of (support_of t) u) || all_behind (heights_of (support_of t) u) ≡ true →
    Meets (face_of t) (face_of u) → ⊥
unfolding face_of
strictly_apart t u n e m = one_side_meets_not (face_of t) (support_of t) u refl n (one_side (support_of t) u e) m

-- if those of t lie on one side of the plane of u, and not all on it
leaning_apart : (t u : Tri) → is_flat t ≡ false →
    (none_in_front (heights_of (support_of u) t) || none_behind (heights_of (support_of u) t))
    && not (all_on (heights_of (support_of u) t)) ≡ true → Meets (face_of t) (face_of u) → ⊥
unfolding face_of
leaning_apart t u n e m =
    inside_off (support_of u) t n e m.at (inside_ring t m.at m.inside) (closed_out (face_of u) m.at m.holds).flat

-- what lies strictly on one side lies on one side
leans : (p : Plane) (t : Tri) → all_in_front (heights_of p t) || all_behind (heights_of p t) ≡ true →
    (none_in_front (heights_of p t) || none_behind (heights_of p t)) && not (all_on (heights_of p t)) ≡ true
leans p t e = by (heights_of p t).a (heights_of p t).b (heights_of p t).c e
  where
    by : (x y z : ℤ) → (is_positive x && (is_positive y && is_positive z))
        || (is_negative x && (is_negative y && is_negative z)) ≡ true →
        ((not (is_positive x) && (not (is_positive y) && not (is_positive z)))
        || (not (is_negative x) && (not (is_negative y) && not (is_negative z))))
        && not (is_zero x && (is_zero y && is_zero z)) ≡ true
    by (pos zero) y z e = absurd (cc)
    by (pos (suc n)) (pos zero) z e = absurd (cc)
    by (pos (suc n)) (pos (suc m)) (pos zero) e = absurd (cc)
    by (pos (suc n)) (pos (suc m)) (pos (suc k)) e = refl
    by (pos (suc n)) (pos (suc m)) (negsuc k) e = absurd (cc)
    by (pos (suc n)) (negsuc m) z e = absurd (cc)
    by (negsuc n) (pos zero) z e = absurd (cc)
    by (negsuc n) (pos (suc m)) z e = absurd (cc)
    by (negsuc n) (negsuc m) (pos zero) e = absurd (cc)
    by (negsuc n) (negsuc m) (pos (suc k)) e = absurd (cc)
    by (negsuc n) (negsuc m) (negsuc k) e = refl

-- the corners of one lie strictly on one side of the plane of the other
pub parted_by_one : (t u : Tri) → all_in_front (heights_of (support_of t) u) || all_behind (heights_of (support_of t) u) ≡ true → AreMeeting t u → ⊥
parted_by_one t u e m =
    ⊎_elim (λ x. strictly_apart t u m.other e x) (λ y. leaning_apart u t m.other (leans (support_of t) u e) y) m.meet

-- to meet is symmetric
pub meeting_is_symmetric : {t u : Tri} → AreMeeting t u → AreMeeting u t
meeting_is_symmetric m = record { one = m.other; other = m.one; meet = ⊎_elim (λ x. inr x) (λ y. inl y) m.meet }

-- the corners of each lie on one side of the plane of the other
pub parted_by_both : (t u : Tri) → (none_in_front (heights_of (support_of u) t)
    || none_behind (heights_of (support_of u) t)) && not (all_on (heights_of (support_of u) t)) ≡ true →
    (none_in_front (heights_of (support_of t) u) || none_behind (heights_of (support_of t) u))
    && not (all_on (heights_of (support_of t) u)) ≡ true → AreMeeting t u → ⊥
parted_by_both t u e f m = ⊎_elim (λ x. leaning_apart t u m.one e x) (λ y. leaning_apart u t m.other f y) m.meet

-- ---- the tests of the code
pub heights_answer_moved : (f : Heights → Bool) (u : Tri) {p q : Plane} {h : Heights} {b : Bool} → p ≡ q →
    h ≡ heights_of p u → b ≡ f h → b ≡ true → f (heights_of q u) ≡ true
heights_answer_moved f u {p} {q} {h} e k r s = sym (ap f (k ∙ ap (λ (p : Plane). heights_of p u) e)) ∙ sym r ∙ s
