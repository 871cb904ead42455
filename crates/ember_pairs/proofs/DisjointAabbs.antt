-- Triangles whose bounding boxes are apart don't meet.
use Rattle.std.proofs.Common.{◌≡◌, ⊎_elim, arith, true, false, ◌&&◌, ℤ, pos, ◌*ℤ◌, neg_ℤ, ◌≤ℤ◌, ◌<ℤ◌, int_le}
use Rattle.std.specs.Int.{int_min, int_max}
use Rattle.std.proofs.lemmas.Int.{clamps}
use Rattle.std.proofs.lemmas.Bool.{and_cases}
use borrow.Author.Differences.{ints}
use Rattle.ember_algebra.proofs.Laws.{linear}
use Rattle.ember_algebra.proofs.Order.{mul_lt}
use Rattle.ember_algebra.proofs.Ring.{◌⊗◌, ◌≈◌, neg, solve, cancels}
use Rattle.ember_algebra.proofs.Numbers.{int_le_not_out}
use Rattle.ember_model.specs.declared.tri.Tri.{Tri}
use Rattle.ember_model.specs.declared.point.Spot.{Spot}
use Rattle.ember_model.specs.declared.point.Axis.{Axis}
use Rattle.ember_model.specs.declared.point.Axis.TheVariants.{X, Y, Z}
use Rattle.ember_model.specs.Planes.{vector_of}
use Rattle.ember_model.specs.Faces.{is_flat, face_of, is_in_closed}
use Rattle.ember_model.proofs.Hits.{closed_parts, inside_closed}
use Rattle.ember_box.specs.Boxes.{entry_along}
use Rattle.ember_box.specs.Aabbs.{aabb_of_tri, interval_over, intervals_meet, aabbs_meet}
use Rattle.ember_ref.proofs.NearPoints.{past_corners}
use Rattle.ember_pairs.specs.Pairs.{AreMeeting}

-- a point of both closed faces, with all corners of t past those of u along an axis
past : (k : Axis) (t u : Tri) (v : Spot) → is_flat t ≡ false → is_flat u ≡ false → is_in_closed (face_of t) v ≡ true →
    is_in_closed (face_of u) v ≡ true → (l h : ℤ) → h <ℤ l → l ≤ℤ entry_along k (vector_of t.a) →
    l ≤ℤ entry_along k (vector_of t.b) → l ≤ℤ entry_along k (vector_of t.c) → entry_along k (vector_of u.a) ≤ℤ h →
    entry_along k (vector_of u.b) ≤ℤ h → entry_along k (vector_of u.c) ≤ℤ h → ⊥
past k t u v nt nu it iu l h g a b c d e f =
    let w = (closed_parts (face_of t) v it).0 in
    let x = past_corners k (pos 1) l t v nt (up (entry_along k (vector_of t.a)) a)
    (up (entry_along k (vector_of t.b)) b) (up (entry_along k (vector_of t.c)) c) it in
    let y = past_corners k (neg_ℤ (pos 1)) (neg_ℤ h) u v nu (down (entry_along k (vector_of u.a)) d)
    (down (entry_along k (vector_of u.b)) e) (down (entry_along k (vector_of u.c)) f) iu in
    let m = mul_lt w g in
    omega (arith, linear, x, y, m, solve 2 (λ h w. neg h ⊗ w ≈ neg (w ⊗ h)) cancels h v.w, solve 2 (λ l w. l ⊗ w ≈ w ⊗ l) cancels l v.w)
  where
    up : (z : ℤ) → l ≤ℤ z → l ≤ℤ (pos 1 *ℤ z)
    up z p = omega (arith, linear)

    down : (z : ℤ) → z ≤ℤ h → neg_ℤ h ≤ℤ (neg_ℤ (pos 1) *ℤ z)
    down z p = omega (arith, linear)

apart_along : (k : Axis) (t u : Tri) (v : Spot) → is_flat t ≡ false → is_flat u ≡ false →
    is_in_closed (face_of t) v ≡ true → is_in_closed (face_of u) v ≡ true →
    intervals_meet (interval_over (entry_along k (vector_of t.a)) (entry_along k (vector_of t.b))
    (entry_along k (vector_of t.c))) (interval_over (entry_along k (vector_of u.a)) (entry_along k (vector_of u.b))
    (entry_along k (vector_of u.c))) ≡ false → ⊥
apart_along k t u v nt nu it iu e =
    let a = entry_along k (vector_of t.a) in let b = entry_along k (vector_of t.b) in let c = entry_along k (vector_of t.c) in
    let d = entry_along k (vector_of u.a) in let f = entry_along k (vector_of u.b) in let g = entry_along k (vector_of u.c) in
    let l = int_min (int_min a b) c in let h = int_max (int_max a b) c in let m = int_min (int_min d f) g in let n = int_max (int_max d f) g in
    ⊎_elim (λ q. past k t u v nt nu it iu l n (int_le_not_out l n q) (least_a a b c) (least_b a b c) (least_c a b c)
    (most_a d f g) (most_b d f g) (most_c d f g))
    (λ q. past k u t v nu nt iu it m h (int_le_not_out m h q) (least_a d f g) (least_b d f g) (least_c d f g) (most_a a b c)
    (most_b a b c) (most_c a b c)) (and_cases (int_le l n) (int_le m h) e)
  where
    least_a : (x y z : ℤ) → int_min (int_min x y) z ≤ℤ x
    least_a x y z = omega (arith, ints, clamps)

    least_b : (x y z : ℤ) → int_min (int_min x y) z ≤ℤ y
    least_b x y z = omega (arith, ints, clamps)

    least_c : (x y z : ℤ) → int_min (int_min x y) z ≤ℤ z
    least_c x y z = omega (arith, ints, clamps)

    most_a : (x y z : ℤ) → x ≤ℤ int_max (int_max x y) z
    most_a x y z = omega (arith, ints, clamps)

    most_b : (x y z : ℤ) → y ≤ℤ int_max (int_max x y) z
    most_b x y z = omega (arith, ints, clamps)

    most_c : (x y z : ℤ) → z ≤ℤ int_max (int_max x y) z
    most_c x y z = omega (arith, ints, clamps)

no_point : (t u : Tri) (v : Spot) → is_flat t ≡ false → is_flat u ≡ false →
    aabbs_meet (aabb_of_tri t) (aabb_of_tri u) ≡ false → is_in_closed (face_of t) v ≡ true →
    is_in_closed (face_of u) v ≡ true → ⊥
no_point t u v nt nu e it iu =
    let a = aabb_of_tri t in let b = aabb_of_tri u in
    ⊎_elim (λ p. ⊎_elim (λ x. apart_along X t u v nt nu it iu x) (λ y. apart_along Y t u v nt nu it iu y)
    (and_cases (intervals_meet a.x b.x) (intervals_meet a.y b.y) p)) (λ z. apart_along Z t u v nt nu it iu z)
    (and_cases (intervals_meet a.x b.x && intervals_meet a.y b.y) (intervals_meet a.z b.z) e)

-- triangles whose bounding boxes don't meet don't meet
pub boxes_apart : (t u : Tri) → aabbs_meet (aabb_of_tri t) (aabb_of_tri u) ≡ false → AreMeeting t u → ⊥
boxes_apart t u e m =
    ⊎_elim (λ p. no_point t u p.at m.one m.other e (inside_closed (face_of t) p.at p.inside) p.holds)
    (λ p. no_point t u p.at m.one m.other e p.holds (inside_closed (face_of u) p.at p.inside)) m.meet
