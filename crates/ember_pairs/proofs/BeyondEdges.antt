-- Triangles that lie beyond an edge plane of another don't meet it.
use Rattle.std.proofs.Common.{◌≡◌, ◌⊎◌, ⊎_elim, inl, inr, refl, arith, Bool, cond, None, Some, true, false, not, List, [], ◌∷◌, pos, ◌<ℤ◌}
use Rattle.std.specs.List.{AllByRecursion}
use Rattle.std.proofs.lemmas.Bool.{or_cases, false≢true, and_parts}
use Rattle.ember_algebra.specs.Sign.{is_negative}
use Rattle.ember_algebra.proofs.Laws.{linear}
use Rattle.ember_algebra.proofs.Booleans.{and_three}
use Rattle.ember_model.specs.declared.plane.Plane.{Plane}
use Rattle.ember_model.specs.declared.point.Spot.{Spot}
use Rattle.ember_model.specs.declared.tri.Tri.{Tri}
use Rattle.ember_model.specs.Planes.{support_of, opposite}
use Rattle.ember_model.specs.Faces.{is_flat, face_of, edges_of, is_inside, is_in_closed}
use Rattle.ember_model.specs.Owners.{spot_of_corner}
use Rattle.ember_model.proofs.SignTests.{not_true, not_negative_out, some_positive}
use Rattle.ember_poly.specs.Rings.{IsBelow, IsAbove, IsNotAbove, IsNotBelow, IsInsideRing}
use Rattle.ember_poly.proofs.Hull.{corners_at_most}
use Rattle.ember_poly.proofs.Face.{closed_from_face, inside_from_face}
use Rattle.ember_poly.proofs.FaceTests.{inside_out, closed_out}
use Rattle.ember_poly.proofs.ReachBySigns.{all_above, most_opposite, least_from_opposite}
use Rattle.ember_poly.proofs.TriangleRing.{tri_sides, stands}
use Rattle.ember_width.specs.declared.heights.Heights.{Heights}
use Rattle.ember_width.specs.Heights.{heights_of, none_behind, all_on, lie_in_front}
use Rattle.ember_pairs.specs.Heights.{heights_over, lies_beyond_some}
use Rattle.ember_pairs.specs.Pairs.{AreMeeting}

-- ---- one plane
module _ (t : Tri) (full : is_flat t ≡ false) (p : Plane) where
  abbrev h : Heights
  h = heights_of p t

  record Corners : Type 0 where
    a : IsNotBelow p (spot_of_corner t.a)
    b : IsNotBelow p (spot_of_corner t.b)
    c : IsNotBelow p (spot_of_corner t.c)

  corners : none_behind (heights_of p t) ≡ true → Corners
  corners e =
      let k = and_three (not (is_negative h.a)) (not (is_negative h.b)) (not (is_negative h.c)) e in
      record {
        a = record { at_least = not_negative_out h.a k.a };
        b =
            record { at_least = not_negative_out h.b k.b };
        c = record { at_least = not_negative_out h.c k.c };
      }

  -- if no corner is behind a plane, neither is a point of the closed face
  pub closed_beyond : lie_in_front (heights_of p t) ≡ true → (v : Spot) → is_in_closed (face_of t) v ≡ true → IsNotBelow p v
  unfolding face_of
  closed_beyond e v k =
      let q = and_parts (none_behind (heights_of p t)) (not (all_on (heights_of p t))) e in
      let o = corners q.0 in
      least_from_opposite p v (corners_at_most (support_of t) (opposite p) v (tri_sides t) (stands t full).sound
      (most_opposite p _ o.a, (most_opposite p _ o.b, (most_opposite p _ o.c, tt)))
      (closed_from_face (support_of t) (edges_of t) (tri_sides t) v (stands t full) (closed_out (face_of t) v k)))

  -- if also not all are on it, the inside points are in front
  pub inside_beyond : lie_in_front (heights_of p t) ≡ true → (v : Spot) → is_inside (face_of t) v ≡ true → IsAbove p v
  unfolding face_of
  inside_beyond e v i =
      let q = and_parts (none_behind (heights_of p t)) (not (all_on (heights_of p t))) e in
      over (corners q.0) (some_positive h.a h.b h.c (corners q.0).a.at_least (corners q.0).b.at_least
      (corners q.0).c.at_least (not_true (all_on (heights_of p t)) q.1))
    where
      ring : IsInsideRing (support_of t) (tri_sides t) v
      ring = inside_from_face (support_of t) (edges_of t) (tri_sides t) v (stands t full) (inside_out (face_of t) v i)

      over : Corners → (pos 0 <ℤ h.a) ⊎ ((pos 0 <ℤ h.b) ⊎ (pos 0 <ℤ h.c)) → IsAbove p v
      over o (inl r) =
          all_above (support_of t) p v (tri_sides t) (stands t full).sound (o.a, (o.b, (o.c, tt))) (inl (record { over = r })) ring
      over o (inr (inl r)) =
          all_above (support_of t) p v (tri_sides t) (stands t full).sound (o.a, (o.b, (o.c, tt))) (inr (inl (record { over = r }))) ring
      over o (inr (inr r)) =
          all_above (support_of t) p v (tri_sides t) (stands t full).sound (o.a, (o.b, (o.c, tt))) (inr (inr (inl (record { over = r })))) ring

-- ---- some of several planes
module _ (t : Tri) (full : is_flat t ≡ false) (v : Spot) where
  -- a point of the closed face isn't behind all
  closed_not_behind : (planes : List Plane) → lies_beyond_some (heights_over planes t) ≡ true →
      is_in_closed (face_of t) v ≡ true → AllByRecursion (λ p. IsBelow p v) planes → ⊥
  closed_not_behind [] e k a = absurd (false≢true e)
  closed_not_behind (p ∷ planes) e k a =
      ⊎_elim (λ here. omega (arith, linear, a.0.under, (closed_beyond t full p here v k).at_least))
      (λ later. closed_not_behind planes later k a.1)
      (or_cases (lie_in_front (heights_of p t)) (lies_beyond_some (heights_over planes t)) e)

  -- an inside point is in front of one
  inside_in_front : (planes : List Plane) → lies_beyond_some (heights_over planes t) ≡ true →
      is_inside (face_of t) v ≡ true → AllByRecursion (λ p. IsNotAbove p v) planes → ⊥
  inside_in_front [] e i a = absurd (false≢true e)
  inside_in_front (p ∷ planes) e i a =
      ⊎_elim (λ here. omega (arith, linear, a.0.at_most, (inside_beyond t full p here v i).over))
      (λ later. inside_in_front planes later i a.1)
      (or_cases (lie_in_front (heights_of p t)) (lies_beyond_some (heights_over planes t)) e)

-- a triangle beyond an edge plane of another doesn't meet it
parted_by_edge : (t u : Tri) → lies_beyond_some (heights_over (edges_of t) u) ≡ true → AreMeeting t u → ⊥
unfolding face_of
parted_by_edge t u e m =
    ⊎_elim (λ x. closed_not_behind u m.other x.at (edges_of t) e x.holds (inside_out (face_of t) x.at x.inside).within)
    (λ y. inside_in_front u m.other y.at (edges_of t) e y.inside (closed_out (face_of t) y.at y.holds).within) m.meet

-- ---- the answers of the code
true_if_none : (b : Bool) (hs : List Heights) → None ≡ cond b None (Some hs) → b ≡ true
true_if_none true hs e = refl
true_if_none false hs e = cc

same_if_some : (b : Bool) (hs ks : List Heights) → Some ks ≡ cond b None (Some hs) → ks ≡ hs
same_if_some true hs ks e = cc
same_if_some false hs ks e = cc

module _ (t u : Tri) where
  abbrev hs : List Heights
  hs = heights_over (edges_of t) u

  -- no heights are given only of a triangle beyond an edge plane
  pub parted_if_none : None ≡ cond (lies_beyond_some hs) None (Some hs) → AreMeeting t u → ⊥
  parted_if_none e m = parted_by_edge t u (true_if_none (lies_beyond_some hs) hs e) m

  -- those that are given are those over the edge planes
  pub given_heights : (ks : List Heights) → Some ks ≡ cond (lies_beyond_some hs) None (Some hs) → ks ≡ hs
  given_heights ks e = same_if_some (lies_beyond_some hs) hs ks e
