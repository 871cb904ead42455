-- Triangles meet if an end of a chord, or its middle, is within the edges.
use Rattle.std.proofs.Common.{◌≡◌, ◌⊎◌, ⊎_elim, inl, inr, sym, ap, subst, ◌∙◌, arith, true, false, not, ◌&&◌, List, [], ◌∷◌, pos, ◌+ℤ◌, neg_ℤ, ◌<ℤ◌, ◌≤ℤ◌}
use Rattle.std.specs.List.{AllByRecursion}
use Rattle.std.proofs.lemmas.Bool.{or_cases, and_parts}
use Rattle.ember_algebra.specs.Sign.{is_negative, is_zero, is_positive}
use Rattle.ember_algebra.proofs.Laws.{linear}
use Rattle.ember_algebra.proofs.Ring.{◌⊕◌, ◌⊖◌, ◌⊗◌, ◌≈◌, neg, num, solve, cancels}
use Rattle.ember_model.specs.declared.face.Face.{Face}
use Rattle.ember_model.specs.declared.plane.Plane.{Plane}
use Rattle.ember_model.specs.declared.tri.Tri.{Tri}
use Rattle.ember_model.specs.Planes.{value_at, support_of}
use Rattle.ember_model.specs.Faces.{is_flat, face_of, edges_of, Meets}
use Rattle.ember_model.proofs.SignTests.{not_true, negative_out, not_positive_out, some_negative}
use Rattle.ember_poly.specs.Rings.{IsBelow, IsNotAbove}
use Rattle.ember_poly.proofs.Chains.{each_map}
use Rattle.ember_poly.proofs.FaceTests.{inside_in, closed_in}
use Rattle.ember_width.specs.declared.heights.Heights.{Heights}
use Rattle.ember_pairs.specs.declared.samples.Weights.{Weights}
use Rattle.ember_pairs.specs.declared.chords.LoneCorner.{LoneCorner}
use Rattle.ember_width.specs.Heights.{heights_of}
use Rattle.ember_pairs.specs.Heights.{heights_over}
use Rattle.ember_pairs.specs.Samples.{sample_point, sample_height}
use Rattle.ember_pairs.specs.Chords.{turned, end_height, IsFirstAlone, chord_heights, chord_over, is_first_behind}
use Rattle.ember_pairs.specs.Chords.{is_second_behind, is_middle_within, is_edge, HasChordWithin}
use Rattle.ember_pairs.specs.Pairs.{AreMeeting}
use Rattle.ember_pairs.proofs.CornerSums.{AreNotNegative, ArePositive, positive_weights_are_not_negative, HasCornersOf}
use Rattle.ember_pairs.proofs.CornerSums.{face_has_triangle_corners, turned_triangle_corners, turned_triangle}
use Rattle.ember_pairs.proofs.CornerSums.{turned_triangle_heights, value_at_sum, sum_has_positive_weight, sum_is_closed}
use Rattle.ember_pairs.proofs.CornerSums.{sum_is_inside}
use Rattle.ember_pairs.proofs.CuttingPlanes.{Cutting, plane_turned_to_lone_corner}

-- ---- the ends and the middle of the chord
-- the weights of the corners at the first end
abbrev first_end : Heights → Weights
first_end h = record { a = neg_ℤ h.b; b = h.a; c = pos 0 }

-- the weights of the corners at the second end
abbrev second_end : Heights → Weights
second_end h = record { a = neg_ℤ h.c; b = pos 0; c = h.a }

-- the weights of the corners at the middle
abbrev middle : Heights → Weights
middle h = record { a = neg_ℤ (h.b +ℤ h.c); b = h.a; c = h.a }

-- the height of the first end over another plane
first_height : (h e : Heights) → sample_height e (first_end h) ≡ end_height h.a h.b e.a e.b
first_height h e =
    solve 5 (λ a b x y z. neg b ⊗ x ⊕ a ⊗ y ⊕ num (pos 0) ⊗ z ≈ a ⊗ y ⊖ b ⊗ x) cancels h.a h.b e.a e.b e.c

-- the height of the second end
second_height : (h e : Heights) → sample_height e (second_end h) ≡ end_height h.a h.c e.a e.c
second_height h e =
    solve 5 (λ a c x y z. neg c ⊗ x ⊕ num (pos 0) ⊗ y ⊕ a ⊗ z ≈ a ⊗ z ⊖ c ⊗ x) cancels h.a h.c e.a e.b e.c

-- the height of the middle is the sum of those of the ends
middle_height : (h e : Heights) → sample_height e (middle h) ≡ end_height h.a h.b e.a e.b +ℤ end_height h.a h.c e.a e.c
middle_height h e =
    solve 6 (λ a b c x y z. neg (b ⊕ c) ⊗ x ⊕ a ⊗ y ⊕ a ⊗ z ≈ (a ⊗ y ⊖ b ⊗ x) ⊕ (a ⊗ z ⊖ c ⊗ x)) cancels h.a h.b h.c e.a e.b e.c

-- the first end is on the plane that cuts
first_end_on_plane : (h : Heights) → sample_height h (first_end h) ≡ pos 0
first_end_on_plane h =
    solve 3 (λ a b c. neg b ⊗ a ⊕ a ⊗ b ⊕ num (pos 0) ⊗ c ≈ num (pos 0)) cancels h.a h.b h.c

-- the second end is on the plane that cuts
second_end_on_plane : (h : Heights) → sample_height h (second_end h) ≡ pos 0
second_end_on_plane h =
    solve 3 (λ a b c. neg c ⊗ a ⊕ num (pos 0) ⊗ b ⊕ a ⊗ c ≈ num (pos 0)) cancels h.a h.b h.c

-- the middle is on the plane that cuts
middle_on_plane : (h : Heights) → sample_height h (middle h) ≡ pos 0
middle_on_plane h = solve 3 (λ a b c. neg (b ⊕ c) ⊗ a ⊕ a ⊗ b ⊕ a ⊗ c ≈ num (pos 0)) cancels h.a h.b h.c

-- the first end has weights that aren't negative
first_weights : {h : Heights} → IsFirstAlone h → AreNotNegative (first_end h)
first_weights {h} k =
    record {
      a = omega (arith, linear, k.second);
      b = omega (arith, linear, k.first);
      c = omega (arith, linear);
      some =
          omega (arith, linear, k.first, k.second);
    }

-- the second end has weights that aren't negative
second_weights : {h : Heights} → IsFirstAlone h → AreNotNegative (second_end h)
second_weights {h} k =
    record { a = omega (arith, linear, k.third); b = omega (arith, linear); c = omega (arith, linear, k.first); some = omega (arith, linear, k.first, k.third) }

-- the middle has positive weights unless the chord is an edge
middle_weights : {h : Heights} → IsFirstAlone h → is_zero h.b && is_zero h.c ≡ false → ArePositive (middle h)
middle_weights {h} k e =
    record { a = by (some_negative (pos 0) h.b h.c (omega (arith, linear)) k.second k.third e); b = k.first; c = k.first }
  where
    by : (pos 0 <ℤ pos 0) ⊎ ((h.b <ℤ pos 0) ⊎ (h.c <ℤ pos 0)) → pos 0 <ℤ neg_ℤ (h.b +ℤ h.c)
    by (inl p) = absurd (omega (arith, linear, p))
    by (inr (inl p)) = omega (arith, linear, p, k.third)
    by (inr (inr p)) = omega (arith, linear, p, k.second)

-- ---- a point of the chord that is within the edges
module _ (f g : Face) (u : Tri) (k : HasCornersOf g u) (w : Weights) (flat : value_at f.support (sample_point u w) ≡ pos 0) where
  -- a sum of the corners that is behind all edge planes is an inside point of f in the closed face g
  point_behind_all_meets : AreNotNegative w → AllByRecursion (λ p. sample_height (heights_of p u) w <ℤ pos 0) f.edges → Meets f g
  point_behind_all_meets n a =
      record {
        at = sample_point u w;
        inside = inside_in f (sample_point u w)
            (record {
              flat = flat;
              weight = sum_has_positive_weight u w n;
              within =
                  each_map (λ p. sample_height (heights_of p u) w <ℤ pos 0) (λ p. IsBelow p (sample_point u w)) f.edges
                  (λ p l. record { under = rw (value_at_sum p u w) l }) a;
            });
        holds = sum_is_closed g u k w n;
      }

  -- one with positive weights that is in front of none is an inside point of g in the closed face f
  inside_point_in_front_of_none_meets : ArePositive w → AllByRecursion (λ p. sample_height (heights_of p u) w ≤ℤ pos 0) f.edges → Meets g f
  inside_point_in_front_of_none_meets n a =
      record {
        at = sample_point u w;
        inside = sum_is_inside g u k w n;
        holds =
            closed_in f (sample_point u w) (record {
              flat = flat;
              weight =
                  sum_has_positive_weight u w (positive_weights_are_not_negative n);
              within =
                  each_map (λ p. sample_height (heights_of p u) w ≤ℤ pos 0) (λ p. IsNotAbove p (sample_point u w)) f.edges
                  (λ p l. record { at_most = rw (value_at_sum p u w) l }) a;
            });
      }

-- ---- from the tests of the code
module _ (u : Tri) (lone : LoneCorner) where
  -- the triangle with the lone corner first
  abbrev v : Tri
  v = turned_triangle lone.name u

  -- what holds of the heights from the lone corner on holds of those of the turned triangle
  moved : (P : Heights → Type 0) (p : Plane) → P (turned lone.name (heights_of p u)) → P (heights_of p v)
  moved P p h = subst P (sym (turned_triangle_heights lone.name p u)) h

  -- the first end is behind all planes if the test says so
  first_within : (planes : List Plane) → is_first_behind (chord_over lone (heights_over planes u)) ≡ true →
      AllByRecursion (λ p. sample_height (heights_of p v) (first_end lone.over) <ℤ pos 0) planes
  first_within [] e = tt
  first_within (p ∷ planes) e =
      let q = and_parts (is_negative (chord_heights lone (heights_of p u)).first) (is_first_behind (chord_over lone (heights_over planes u))) e in (
        moved (λ h. sample_height h (first_end lone.over) <ℤ pos 0) p
            (rw (first_height lone.over (turned lone.name (heights_of p u)))
            (negative_out (chord_heights lone (heights_of p u)).first q.0)),
        first_within planes q.1,
      )

  -- the second end is behind all planes if the test says so
  second_within : (planes : List Plane) → is_second_behind (chord_over lone (heights_over planes u)) ≡ true →
      AllByRecursion (λ p. sample_height (heights_of p v) (second_end lone.over) <ℤ pos 0) planes
  second_within [] e = tt
  second_within (p ∷ planes) e =
      let q = and_parts (is_negative (chord_heights lone (heights_of p u)).second) (is_second_behind (chord_over lone (heights_over planes u))) e in (
        moved (λ h. sample_height h (second_end lone.over) <ℤ pos 0) p
            (rw (second_height lone.over (turned lone.name (heights_of p u)))
            (negative_out (chord_heights lone (heights_of p u)).second q.0)),
        second_within planes q.1,
      )

  -- the middle is in front of no plane if the test says so
  middle_within : (planes : List Plane) → is_middle_within (chord_over lone (heights_over planes u)) ≡ true →
      AllByRecursion (λ p. sample_height (heights_of p v) (middle lone.over) ≤ℤ pos 0) planes
  middle_within [] e = tt
  middle_within (p ∷ planes) e =
      let q = and_parts (not (is_positive (chord_heights lone (heights_of p u)).middle)) (is_middle_within (chord_over lone (heights_over planes u))) e in (
        moved (λ h. sample_height h (middle lone.over) ≤ℤ pos 0) p
            (rw (middle_height lone.over (turned lone.name (heights_of p u)))
            (not_positive_out (chord_heights lone (heights_of p u)).middle q.0)),
        middle_within planes q.1,
      )

-- triangles meet if an end of the chord or its middle is within the edges
pub met_by_chord : (t u : Tri) → is_flat t ≡ false → is_flat u ≡ false →
    HasChordWithin (heights_of (support_of t) u) (heights_over (edges_of t) u) → AreMeeting t u
unfolding face_of
met_by_chord t u one other x =
    record {
      one = one;
      other = other;
      meet = ⊎_elim (λ e. inl (first e))
          (λ more. ⊎_elim (λ e. inl (second e)) (λ e. inr (within e)) (or_cases _ _ more)) (or_cases _ _ x.within);
    }
  where
    cut : Cutting (support_of t) u x.lone
    cut = plane_turned_to_lone_corner (support_of t) u x.lone x.is_lone

    corners : HasCornersOf (face_of u) (turned_triangle x.lone.name u)
    corners = turned_triangle_corners x.lone.name (face_of u) u (face_has_triangle_corners u other)

    -- a point of the chord is on the plane of t
    flat : (w : Weights) → sample_height x.lone.over w ≡ pos 0 → value_at (support_of t) (sample_point (turned_triangle x.lone.name u) w) ≡ pos 0
    flat w z =
        cut.back (sample_point (turned_triangle x.lone.name u) w)
        (value_at_sum cut.plane (turned_triangle x.lone.name u) w
        ∙ ap (λ (h : Heights). sample_height h w) (sym cut.heights) ∙ z)

    first : is_first_behind (chord_over x.lone (heights_over (edges_of t) u)) ≡ true → Meets (face_of t) (face_of u)
    first e =
        point_behind_all_meets (face_of t) (face_of u) (turned_triangle x.lone.name u) corners (first_end x.lone.over)
        (flat (first_end x.lone.over) (first_end_on_plane x.lone.over)) (first_weights x.is_lone.alone)
        (first_within u x.lone (edges_of t) e)

    second : is_second_behind (chord_over x.lone (heights_over (edges_of t) u)) ≡ true → Meets (face_of t) (face_of u)
    second e =
        point_behind_all_meets (face_of t) (face_of u) (turned_triangle x.lone.name u) corners (second_end x.lone.over)
        (flat (second_end x.lone.over) (second_end_on_plane x.lone.over)) (second_weights x.is_lone.alone)
        (second_within u x.lone (edges_of t) e)

    within : not (is_edge x.lone) && is_middle_within (chord_over x.lone (heights_over (edges_of t) u)) ≡ true → Meets (face_of u) (face_of t)
    within e =
        let q = and_parts (not (is_edge x.lone)) (is_middle_within (chord_over x.lone (heights_over (edges_of t) u))) e in
        inside_point_in_front_of_none_meets (face_of t) (face_of u) (turned_triangle x.lone.name u) corners
        (middle x.lone.over) (flat (middle x.lone.over) (middle_on_plane x.lone.over))
        (middle_weights x.is_lone.alone (not_true (is_edge x.lone) q.0)) (middle_within u x.lone (edges_of t) q.1)
