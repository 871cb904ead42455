-- When two triangles have no common point, and when one lies in the other.
use Rattle.std.proofs.Common.{◌≡◌, ◌⊎◌, inl, inr, refl, ap, subst, ◌∙◌, arith, ℕ, ◌<◌, zero, suc, List, length, get_or}
use Rattle.std.proofs.Common.{Bool, true, false, not, ◌&&◌, Some, None, slice_get, ℤ, pos, neg_ℤ, ◌*ℤ◌, ◌<ℤ◌}
use Rattle.std.proofs.Common.{◌≤ℤ◌, int_le, sym}
use Rattle.std.proofs.lemmas.Int.{clamps}
use Rattle.std.proofs.lemmas.Bool.{and_from, and_parts}
use borrow.Author.Differences.{ints}
use Rattle.ember_algebra.specs.Sign.{is_negative, is_zero, is_positive}
use Rattle.ember_algebra.proofs.Laws.{linear}
use Rattle.ember_algebra.proofs.Order.{cancel_le}
use Rattle.ember_algebra.proofs.Ring.{◌⊗◌, neg, ◌≈◌, solve, cancels}
use Rattle.ember_model.specs.declared.plane.Plane.{Plane}
use Rattle.ember_model.specs.declared.point.Spot.{Spot}
use Rattle.std.proofs.lemmas.Option.{slice_get-get_or}
use Rattle.ember_algebra.proofs.Numbers.{int_le_in}
use Rattle.ember_algebra.proofs.Booleans.{and_three, same_some}
use Rattle.ember_model.specs.declared.point.Axis.{Axis}
use Rattle.ember_model.specs.declared.point.Axis.TheVariants.{X, Y, Z}
use Rattle.ember_model.specs.declared.tri.Tri.{Tri}
use Rattle.ember_model.specs.Planes.{vector_of, value_at, support_of, opposite, zero_plane}
use Rattle.ember_model.specs.Faces.{is_flat, face_of, edges_of, is_in_closed, Everywhere, Contains, is_inside}
use Rattle.ember_model.specs.Owners.{is_coplanar}
use Rattle.ember_model.proofs.SignTests.{negative_out, positive_out, not_positive_out, zero_out, not_true, negative_in}
use Rattle.ember_model.proofs.SignTests.{not_negative_out, some_positive, some_negative}
use Rattle.ember_model.proofs.PlaneValues.{value-opposite}
use Rattle.ember_box.specs.declared.aabb.Interval.{Interval}
use Rattle.ember_box.specs.Boxes.{entry_along}
use Rattle.ember_box.specs.Aabbs.{aabb_of_tri, intervals_meet}
use Rattle.ember_ref.proofs.NearPoints.{past_corners, coordinate}
use Rattle.ember_poly.specs.Rings.{IsBelow, IsAbove, IsNotAbove, IsNotBelow, IsOnPlane, IsInsideRing, IsInClosedRing}
use Rattle.ember_poly.proofs.ReachBySigns.{under_opposite, closed_from_inside}
use Rattle.ember_poly.proofs.TriangleRing.{tri_sides, inside_ring}
use Rattle.ember_width.specs.declared.heights.Heights.{Heights}
use Rattle.ember_width.specs.Heights.{heights_of, none_behind, none_in_front, all_behind, all_in_front, all_on}
use Rattle.ember_leaf.specs.TriRelations.{IsBehindEdge, MissesClosedFace}
use Rattle.ember_leaf.specs.Cutters.{LiesInInterval}
use Rattle.ember_leaf.proofs.TriFaces.{AtCorners, AtCorner, closed_ring, inside_under, inside_over}
use Rattle.ember_leaf.proofs.TriFaces.{closed_over, closed_at_least, ring_inside, closed_on}

-- ---- from tests of heights to facts at the corners
module _ (p : Plane) (t : Tri) where
  -- if no corner is behind the plane, each corner is on it or in front of it
  pub front_at_least : none_behind (heights_of p t) ≡ true → AtCorners (λ s. IsNotBelow p s) t
  front_at_least e =
      let h = heights_of p t in let k = and_three (not (is_negative h.a)) (not (is_negative h.b)) (not (is_negative h.c)) e in
      (record { at_least = not_negative_out h.a k.a }, (record { at_least = not_negative_out h.b k.b }, (record { at_least = not_negative_out h.c k.c }, tt)))

  behind_at_most : none_in_front (heights_of p t) ≡ true → AtCorners (λ s. IsNotAbove p s) t
  behind_at_most e =
      let h = heights_of p t in let k = and_three (not (is_positive h.a)) (not (is_positive h.b)) (not (is_positive h.c)) e in
      (record { at_most = not_positive_out h.a k.a }, (record { at_most = not_positive_out h.b k.b }, (record { at_most = not_positive_out h.c k.c }, tt)))

  front_over : all_in_front (heights_of p t) ≡ true → AtCorners (λ s. IsAbove p s) t
  front_over e =
      let h = heights_of p t in let k = and_three (is_positive h.a) (is_positive h.b) (is_positive h.c) e in
      (record { over = positive_out h.a k.a }, (record { over = positive_out h.b k.b }, (record { over = positive_out h.c k.c }, tt)))

  behind_under : all_behind (heights_of p t) ≡ true → AtCorners (λ s. IsBelow p s) t
  behind_under e =
      let h = heights_of p t in let k = and_three (is_negative h.a) (is_negative h.b) (is_negative h.c) e in
      (record { under = negative_out h.a k.a }, (record { under = negative_out h.b k.b }, (record { under = negative_out h.c k.c }, tt)))

  -- if all corners are on the plane, each is
  pub on_on : all_on (heights_of p t) ≡ true → AtCorners (λ s. IsOnPlane p s) t
  on_on e =
      let h = heights_of p t in let k = and_three (is_zero h.a) (is_zero h.b) (is_zero h.c) e in
      (record { on_plane = zero_out h.a k.a }, (record { on_plane = zero_out h.b k.b }, (record { on_plane = zero_out h.c k.c }, tt)))

-- if no corner is behind the plane and not all are on it, some corner is above it
pub corner_over : (p : Plane) (t : Tri) → AtCorners (λ s. IsNotBelow p s) t → all_on (heights_of p t) ≡ false → AtCorner (λ s. IsAbove p s) t
corner_over p t h e =
    let k = heights_of p t in pick (some_positive k.a k.b k.c h.0.at_least h.1.0.at_least h.1.1.0.at_least e)
  where
    pick : (pos 0 <ℤ (heights_of p t).a) ⊎ ((pos 0 <ℤ (heights_of p t).b) ⊎ (pos 0 <ℤ (heights_of p t).c)) → AtCorner (λ s. IsAbove p s) t
    pick (inl o) = inl (record { over = o })
    pick (inr (inl o)) = inr (inl (record { over = o }))
    pick (inr (inr o)) = inr (inr (inl (record { over = o })))

corner_under : (p : Plane) (t : Tri) → AtCorners (λ s. IsNotAbove p s) t → all_on (heights_of p t) ≡ false → AtCorner (λ s. IsBelow p s) t
corner_under p t h e =
    let k = heights_of p t in pick (some_negative k.a k.b k.c h.0.at_most h.1.0.at_most h.1.1.0.at_most e)
  where
    pick : ((heights_of p t).a <ℤ pos 0) ⊎ (((heights_of p t).b <ℤ pos 0) ⊎ ((heights_of p t).c <ℤ pos 0)) → AtCorner (λ s. IsBelow p s) t
    pick (inl o) = inl (record { under = o })
    pick (inr (inl o)) = inr (inl (record { under = o }))
    pick (inr (inr o)) = inr (inr (inl (record { under = o })))

-- ---- no common point
apart : (t u : Tri) → ((v : Spot) → IsInsideRing (support_of t) (tri_sides t) v → IsInClosedRing (support_of u) (tri_sides u) v → ⊥) → MissesClosedFace t u
apart t u f =
    record { holds = λ v i. off (is_in_closed (face_of u) v) (λ e. f v (inside_ring t v i) (closed_ring u v e)) }
  where
    off : (b : Bool) → (b ≡ true → ⊥) → b ≡ false
    off true g = absurd (g refl)
    off false g = refl

zero_over : {p : Plane} {v : Spot} → value_at p v ≡ pos 0 → IsAbove p v → ⊥
zero_over e o = omega (arith, linear, e, o.over)

zero_under : {p : Plane} {v : Spot} → value_at p v ≡ pos 0 → IsBelow p v → ⊥
zero_under e u = omega (arith, linear, e, u.under)

module _ (t u : Tri) (nt : is_flat t ≡ false) (nu : is_flat u ≡ false) where
  -- a triangle all of whose corners are in front of t's plane is disjoint from t
  pub apart_in_front : all_in_front (heights_of (support_of t) u) ≡ true → MissesClosedFace t u
  apart_in_front e =
      apart t u (λ v i k. zero_over i.flat (closed_over u nu (support_of t) v (front_over (support_of t) u e) k))

  -- and so is one all of whose corners are behind it
  pub apart_behind : all_behind (heights_of (support_of t) u) ≡ true → MissesClosedFace t u
  apart_behind e =
      let s = support_of t in let h = behind_under s u e in
      apart t u (λ v i k. zero_over (value-opposite s v ∙ ap neg_ℤ i.flat)
      (closed_over u nu (opposite s) v (
        under_opposite s _ h.0,
        (under_opposite s _ h.1.0, (under_opposite s _ h.1.1.0, tt)),
      ) k))

  apart_own_front : none_behind (heights_of (support_of u) t) ≡ true → all_on (heights_of (support_of u) t) ≡ false → MissesClosedFace t u
  apart_own_front e f =
      let s = support_of u in let h = front_at_least s t e in
      apart t u (λ v i k. zero_over k.flat (inside_over t nt s v h (corner_over s t h f) i))

  apart_own_behind : none_in_front (heights_of (support_of u) t) ≡ true → all_on (heights_of (support_of u) t) ≡ false → MissesClosedFace t u
  apart_own_behind e f =
      let s = support_of u in let h = behind_at_most s t e in
      apart t u (λ v i k. zero_under k.flat (inside_under t nt s v h (corner_under s t h f) i))

-- ---- bounding boxes
pub intervals_with_point_meet : (a b : Interval) (x w : ℤ) → pos 0 <ℤ w → LiesInInterval a x w → LiesInInterval b x w → intervals_meet a b ≡ true
intervals_with_point_meet a b x w p h k =
    and_from (int_le a.low b.high) (int_le b.low a.high)
    (int_le_in a.low b.high (order a.low b.high (omega (arith, linear, h.low, k.high))))
    (int_le_in b.low a.high (order b.low a.high (omega (arith, linear, k.low, h.high))))
  where
    order : (l h : ℤ) → (l *ℤ w) ≤ℤ (h *ℤ w) → l ≤ℤ h
    order l h q =
        cancel_le p (omega (arith, linear, q, solve 2 (λ w l. w ⊗ l ≈ l ⊗ w) cancels w l, solve 2 (λ w h. w ⊗ h ≈ h ⊗ w) cancels w h))

held : (k : Axis) (s : Interval) (t : Tri) (v : Spot) → is_flat t ≡ false →
    (s.low ≤ℤ entry_along k (vector_of t.a)) × (s.low ≤ℤ entry_along k (vector_of t.b)) ×
    (s.low ≤ℤ entry_along k (vector_of t.c)) → (entry_along k (vector_of t.a) ≤ℤ s.high) ×
    (entry_along k (vector_of t.b) ≤ℤ s.high) × (entry_along k (vector_of t.c) ≤ℤ s.high) →
    is_in_closed (face_of t) v ≡ true → LiesInInterval s (coordinate k v) v.w
held k s t v n l h e =
    record {
      low = below (past_corners k (pos 1) s.low t v n (one l.0) (one l.1) (one l.2) e);
      high =
          above (past_corners k (neg_ℤ (pos 1)) (neg_ℤ s.high) t v n (minus h.0) (minus h.1) (minus h.2) e);
    }
  where
    one : {a b : ℤ} → a ≤ℤ b → a ≤ℤ (pos 1 *ℤ b)
    one q = omega (arith, linear, q)

    minus : {a b : ℤ} → a ≤ℤ b → neg_ℤ b ≤ℤ (neg_ℤ (pos 1) *ℤ a)
    minus q = omega (arith, linear, q)

    below : (s.low *ℤ v.w) ≤ℤ (pos 1 *ℤ coordinate k v) → (s.low *ℤ v.w) ≤ℤ coordinate k v
    below q = omega (arith, linear, q)

    above : (neg_ℤ s.high *ℤ v.w) ≤ℤ (neg_ℤ (pos 1) *ℤ coordinate k v) → coordinate k v ≤ℤ (s.high *ℤ v.w)
    above q =
        omega (arith, linear, q, solve 2 (λ h w. neg h ⊗ w ≈ neg (h ⊗ w)) cancels s.high v.w)

abbrev spanned : Axis → Tri → Interval
spanned X t = (aabb_of_tri t).x
spanned Y t = (aabb_of_tri t).y
spanned Z t = (aabb_of_tri t).z

-- a triangle's closed face lies within its interval along each axis
pub bounds : (k : Axis) (t : Tri) (v : Spot) → is_flat t ≡ false → is_in_closed (face_of t) v ≡ true → LiesInInterval (spanned k t) (coordinate k v) v.w
bounds X t v n e =
    held X (aabb_of_tri t).x t v n (
      omega (arith, ints, clamps),
      omega (arith, ints, clamps),
      omega (arith, ints, clamps),
    ) (
      omega (arith, ints, clamps),
      omega (arith, ints, clamps),
      omega (arith, ints, clamps),
    ) e
bounds Y t v n e =
    held Y (aabb_of_tri t).y t v n (
      omega (arith, ints, clamps),
      omega (arith, ints, clamps),
      omega (arith, ints, clamps),
    ) (
      omega (arith, ints, clamps),
      omega (arith, ints, clamps),
      omega (arith, ints, clamps),
    ) e
bounds Z t v n e =
    held Z (aabb_of_tri t).z t v n (
      omega (arith, ints, clamps),
      omega (arith, ints, clamps),
      omega (arith, ints, clamps),
    ) (
      omega (arith, ints, clamps),
      omega (arith, ints, clamps),
      omega (arith, ints, clamps),
    ) e

-- ---- edge planes
none_some : {p : Plane} → None ≡ Some p → ⊥
none_some e = cc

edge_under : (t : Tri) (i : ℕ) (p : Plane) (v : Spot) → slice_get (edges_of t) i ≡ Some p → IsInsideRing (support_of t) (tri_sides t) v → IsBelow p v
edge_under t zero p v e k = subst (λ (q : Plane). IsBelow q v) (same_some e) k.within.0
edge_under t (suc zero) p v e k = subst (λ (q : Plane). IsBelow q v) (same_some e) k.within.1.0
edge_under t (suc (suc zero)) p v e k = subst (λ (q : Plane). IsBelow q v) (same_some e) k.within.1.1.0
edge_under t (suc (suc (suc i))) p v e k = absurd (none_some e)

edge_at_most : (t : Tri) (i : ℕ) (p : Plane) (v : Spot) → slice_get (edges_of t) i ≡ Some p → IsInClosedRing (support_of t) (tri_sides t) v → IsNotAbove p v
edge_at_most t zero p v e k = subst (λ (q : Plane). IsNotAbove q v) (same_some e) k.within.0
edge_at_most t (suc zero) p v e k = subst (λ (q : Plane). IsNotAbove q v) (same_some e) k.within.1.0
edge_at_most t (suc (suc zero)) p v e k = subst (λ (q : Plane). IsNotAbove q v) (same_some e) k.within.1.1.0
edge_at_most t (suc (suc (suc i))) p v e k = absurd (none_some e)

-- no point is both below a plane and not below it
pub under_least : {p : Plane} {v : Spot} → IsBelow p v → IsNotBelow p v → ⊥
under_least u l = omega (arith, linear, u.under, l.at_least)

most_over : {p : Plane} {v : Spot} → IsNotAbove p v → IsAbove p v → ⊥
most_over m o = omega (arith, linear, m.at_most, o.over)

edge_parts_triangles : (t u : Tri) (i : ℕ) (p : Plane) → is_flat t ≡ false → is_flat u ≡ false →
    slice_get (edges_of t) i ≡ Some p → none_behind (heights_of p u) ≡ true → all_on (heights_of p u) ≡ false →
    MissesClosedFace t u × MissesClosedFace u t
edge_parts_triangles t u i p n m e f g =
    let h = front_at_least p u f in (
      apart t u (λ v a b. under_least (edge_under t i p v e a) (closed_at_least u m p v h b)),
      apart u t (λ v a b. most_over (edge_at_most t i p v e b) (inside_over u m p v h (corner_over p u h g) a)),
    )

-- ---- one in the other
behind_edge : (u : Tri) (p : Plane) → is_flat u ≡ false → none_in_front (heights_of p u) ≡ true →
    all_on (heights_of p u) ≡ false → Everywhere (face_of u) (λ v. is_negative (value_at p v) ≡ true)
behind_edge u p m f g =
    let h = behind_at_most p u f in
    record { holds = λ v i. negative_in (inside_under u m p v h (corner_under p u h g) (inside_ring u v i)).under }

on_plane : (t u : Tri) (v : Spot) → is_flat u ≡ false → all_on (heights_of (support_of t) u) ≡ true →
    is_inside (face_of u) v ≡ true → value_at (support_of t) v ≡ pos 0
on_plane t u v m e i =
    (closed_on u m (support_of t) v (on_on (support_of t) u e) (closed_from_inside (support_of u) (tri_sides u) v (inside_ring u v i))).on_plane

triangle_is_covered : (t u : Tri) → is_flat u ≡ false → all_on (heights_of (support_of t) u) ≡ true →
    ((i : ℕ) (p : Plane) → slice_get (edges_of t) i ≡ Some p →
    Everywhere (face_of u) (λ v. is_negative (value_at p v) ≡ true)) → Contains (face_of t) (face_of u)
triangle_is_covered t u m e f =
    record {
      holds = λ v i. ring_inside t v (record {
        flat = on_plane t u v m e i;
        weight =
            (inside_ring u v i).weight;
        within = (edge 0 _ v refl i, (edge 1 _ v refl i, (edge 2 _ v refl i, tt)));
      });
    }
  where
    edge : (k : ℕ) (p : Plane) (v : Spot) → slice_get (edges_of t) k ≡ Some p → is_inside (face_of u) v ≡ true → IsBelow p v
    edge k p v q i = record { under = negative_out (value_at p v) ((f k p q).holds v i) }

-- ---- coplanar triangles
pub coplanar_flats : (t u : Tri) → is_coplanar t u ≡ true → (is_flat t ≡ false) × (is_flat u ≡ false) × (all_on (heights_of (support_of t) u) ≡ true)
unfolding is_coplanar
coplanar_flats t u e =
    let p = and_parts (not (is_flat t)) (not (is_flat u) && all_on (heights_of (support_of t) u)) e in
    let q = and_parts (not (is_flat u)) (all_on (heights_of (support_of t) u)) p.1 in
    (not_true (is_flat t) p.0, not_true (is_flat u) q.0, q.1)

-- ---- the tests of the code
module _ (f : Heights → Bool) where
  -- a test of a triangle's heights over equal planes answers the same
  pub heights_test_moved : (u : Tri) {p q : Plane} {h : Heights} {b v : Bool} → p ≡ q → h ≡ heights_of p u → b ≡ f h → b ≡ v → f (heights_of q u) ≡ v
  heights_test_moved u {p} {q} {h} e k r s = sym (ap f (k ∙ ap (λ (p : Plane). heights_of p u) e)) ∙ sym r ∙ s

-- the edge plane of a triangle at a place of its list
edge_here : (t : Tri) (es : List Plane) (i : ℕ) → es ≡ edges_of t → i < 3 → slice_get (edges_of t) i ≡ Some (get_or es i zero_plane)
edge_here t es i e l =
    subst (λ us. slice_get us i ≡ Some (get_or es i zero_plane)) e (slice_get-get_or es i zero_plane (subst (λ us. i < length us) (sym e) l))

-- an edge plane of t that has u in front of it keeps the two apart
pub parted_by : (t u : Tri) (es : List Plane) (i : ℕ) {h : Heights} {b : Bool} → is_flat t ≡ false → is_flat u ≡ false →
    es ≡ edges_of t → i < 3 → h ≡ heights_of (get_or es i zero_plane) u → b ≡ none_behind h && not (all_on h) → b ≡ true →
    MissesClosedFace t u × MissesClosedFace u t
parted_by t u es i {h} n m e l q r z =
    let p = get_or es i zero_plane in
    let x = and_parts (none_behind (heights_of p u)) (not (all_on (heights_of p u)))
    (heights_test_moved (λ h. none_behind h && not (all_on h)) u {p = p} refl q r z) in
    edge_parts_triangles t u i p n m (edge_here t es i e l) x.0 (not_true (all_on (heights_of p u)) x.1)

module _ (t u : Tri) (n : is_flat t ≡ false) (m : is_flat u ≡ false) where
  -- if t is in front of u's plane and not in it, t has no inside point in u
  pub own_in_front : {s : Plane} {h : Heights} {b : Bool} → s ≡ support_of u → h ≡ heights_of s t →
      b ≡ none_behind h && not (all_on h) → b ≡ true → MissesClosedFace t u
  own_in_front e q r z =
      let x = and_parts (none_behind (heights_of (support_of u) t)) (not (all_on (heights_of (support_of u) t)))
      (heights_test_moved (λ h. none_behind h && not (all_on h)) t e q r z) in
      apart_own_front t u n m x.0 (not_true (all_on (heights_of (support_of u) t)) x.1)

  -- if t is behind u's plane and not in it, t has no inside point in u
  pub own_behind : {s : Plane} {h : Heights} {b : Bool} → s ≡ support_of u → h ≡ heights_of s t →
      b ≡ none_in_front h && not (all_on h) → b ≡ true → MissesClosedFace t u
  own_behind e q r z =
      let x = and_parts (none_in_front (heights_of (support_of u) t)) (not (all_on (heights_of (support_of u) t)))
      (heights_test_moved (λ h. none_in_front h && not (all_on h)) t e q r z) in
      apart_own_behind t u n m x.0 (not_true (all_on (heights_of (support_of u) t)) x.1)

  -- triangles are coplanar if the second one's corners are on the first one's plane
  pub coplanar_is : is_coplanar t u ≡ all_on (heights_of (support_of t) u)
  unfolding is_coplanar
  coplanar_is = λ i. not (n i) && (not (m i) && all_on (heights_of (support_of t) u))

-- the triangle u lies behind the plane of an edge of t
pub behind_by : (t u : Tri) (es : List Plane) (i : ℕ) {h : Heights} {b : Bool} → is_flat u ≡ false → es ≡ edges_of t →
    i < 3 → h ≡ heights_of (get_or es i zero_plane) u → b ≡ none_in_front h && not (all_on h) → b ≡ true →
    IsBehindEdge t u i
behind_by t u es i {h} m e l q r z =
    let p = get_or es i zero_plane in
    let x = and_parts (none_in_front (heights_of p u)) (not (all_on (heights_of p u)))
    (heights_test_moved (λ h. none_in_front h && not (all_on h)) u {p = p} refl q r z) in
    let w = behind_edge u p m x.0 (not_true (all_on (heights_of p u)) x.1) in
    λ g' h'. subst (λ (q : Plane). Everywhere (face_of u) (λ v. is_negative (value_at q v) ≡ true)) (same_some (sym (edge_here t es i e l) ∙ h')) w

-- a coplanar triangle u that is behind all three edge planes of t is contained in t
pub covered_by : (t u : Tri) → is_coplanar t u ≡ true → IsBehindEdge t u 0 → IsBehindEdge t u 1 → IsBehindEdge t u 2 → Contains (face_of t) (face_of u)
covered_by t u e a b c =
    let n = coplanar_flats t u e in triangle_is_covered t u n.1 n.2 edge
  where
    none_here : {p : Plane} → None ≡ Some p → ⊥
    none_here h = cc

    edge : (i : ℕ) (p : Plane) → slice_get (edges_of t) i ≡ Some p → Everywhere (face_of u) (λ v. is_negative (value_at p v) ≡ true)
    edge zero p q = a p q
    edge (suc zero) p q = b p q
    edge (suc (suc zero)) p q = c p q
    edge (suc (suc (suc i))) p q = absurd (none_here q)
