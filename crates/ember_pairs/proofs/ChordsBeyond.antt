-- Triangles don't meet if a chord lies beyond an edge.
use Rattle.std.proofs.Common.{◌≡◌, ⊎_elim, sym, ap, subst, ◌∙◌, arith, Bool, true, false, not, ◌&&◌, List, [], ◌∷◌, ℤ, pos, ◌-ℤ◌, ◌+ℤ◌, ◌*ℤ◌, ◌<ℤ◌, ◌≤ℤ◌}
use Rattle.std.specs.List.{AllByRecursion, list_any}
use Rattle.std.proofs.lemmas.Bool.{or_cases, false≢true}
use Rattle.std.proofs.Math.Bool.{and_comm, and_assoc}
use Rattle.ember_algebra.specs.Sign.{is_negative, is_zero}
use Rattle.ember_algebra.proofs.Laws.{linear}
use Rattle.ember_algebra.proofs.Order.{cancel_lt, cancel_le}
use Rattle.ember_algebra.proofs.Ring.{◌⊕◌, ◌⊖◌, ◌⊗◌, ◌≈◌, num, solve, cancels}
use Rattle.ember_model.specs.declared.plane.Plane.{Plane}
use Rattle.ember_model.specs.declared.point.Spot.{Spot}
use Rattle.ember_model.specs.declared.tri.Tri.{Tri}
use Rattle.ember_model.specs.Planes.{value_at, support_of}
use Rattle.ember_model.specs.Faces.{is_flat, face_of, edges_of, is_inside, is_in_closed}
use Rattle.ember_model.specs.Owners.{spot_of_corner}
use Rattle.ember_model.proofs.SignTests.{ap2}
use Rattle.ember_poly.specs.Rings.{IsBelow, IsNotAbove}
use Rattle.ember_poly.proofs.FaceTests.{inside_out, closed_out}
use Rattle.ember_width.specs.declared.heights.Heights.{Heights}
use Rattle.ember_pairs.specs.declared.chords.CornerName.{CornerName}
use Rattle.ember_pairs.specs.declared.chords.CornerName.TheVariants.{A, B, C}
use Rattle.ember_pairs.specs.declared.chords.LoneCorner.{LoneCorner}
use Rattle.ember_pairs.specs.declared.chords.ChordHeights.{ChordHeights}
use Rattle.ember_width.specs.Heights.{heights_of, lie_in_front}
use Rattle.ember_pairs.specs.Heights.{heights_over}
use Rattle.ember_pairs.specs.Chords.{turned, end_height, IsLone, chord_heights, chord_over, is_beyond, HasChordBeyond}
use Rattle.ember_pairs.specs.Pairs.{AreMeeting}
use Rattle.ember_pairs.proofs.BeyondEdges.{closed_beyond, inside_beyond}
use Rattle.ember_pairs.proofs.CornerSums.{turned_triangle, turned_triangle_heights}
use Rattle.ember_pairs.proofs.CuttingPlanes.{plane_turned_to_lone_corner}

-- ---- another corner first
-- a conjunction is the same in another order
conjunction_turned : (x y z : Bool) → x && (y && z) ≡ z && (x && y)
conjunction_turned x y z = sym (and_assoc x y z) ∙ and_comm (x && y) z

-- a triangle lies beyond a plane exactly if it does so with its second corner first
beyond_from_next_corner : (h : Heights) → lie_in_front (turned B h) ≡ lie_in_front h
beyond_from_next_corner h =
    ap2 (λ x y. x && not y) (conjunction_turned (not (is_negative h.b)) (not (is_negative h.c)) (not (is_negative h.a)))
    (conjunction_turned (is_zero h.b) (is_zero h.c) (is_zero h.a))

-- a triangle lies beyond a plane if it does so with any corner first
beyond_from_any_corner : (name : CornerName) (h : Heights) → lie_in_front (turned name h) ≡ true → lie_in_front h ≡ true
beyond_from_any_corner A h e = e
beyond_from_any_corner B h e = sym (beyond_from_next_corner h) ∙ e
beyond_from_any_corner C h e = beyond_from_next_corner (turned C h) ∙ e

-- ---- the plane through the lone corner and the line in which two planes meet
abbrev mixed : ℤ → Plane → ℤ → Plane → Plane
mixed k e l m =
    record { a = k *ℤ e.a -ℤ l *ℤ m.a; b = k *ℤ e.b -ℤ l *ℤ m.b; c = k *ℤ e.c -ℤ l *ℤ m.c; d = k *ℤ e.d -ℤ l *ℤ m.d }

-- its value is the same combination of theirs
mixed_value : (k : ℤ) (e : Plane) (l : ℤ) (m : Plane) (v : Spot) → value_at (mixed k e l m) v ≡ k *ℤ value_at e v -ℤ l *ℤ value_at m v
mixed_value k e l m v =
    by k l e.a e.b e.c e.d m.a m.b m.c m.d v.x v.y v.z v.w
  where
    by : (k l a b c d e f g h x y z w : ℤ) → ((k *ℤ a -ℤ l *ℤ e) *ℤ x +ℤ (k *ℤ b -ℤ l *ℤ f) *ℤ y +ℤ (k *ℤ c -ℤ l *ℤ g)
        *ℤ z -ℤ (k *ℤ d -ℤ l *ℤ h) *ℤ w) ≡ (k *ℤ (a *ℤ x +ℤ b *ℤ y +ℤ c *ℤ z -ℤ d *ℤ w) -ℤ l *ℤ
        (e *ℤ x +ℤ f *ℤ y +ℤ g *ℤ z -ℤ h *ℤ w))
    by = solve 14 (λ k l a b c d e f g h x y z w. (k ⊗ a ⊖ l ⊗ e) ⊗ x ⊕ (k ⊗ b ⊖ l ⊗ f) ⊗ y ⊕ (k ⊗ c ⊖ l ⊗ g) ⊗ z ⊖
        (k ⊗ d ⊖ l ⊗ h) ⊗ w ≈ k ⊗ (a ⊗ x ⊕ b ⊗ y ⊕ c ⊗ z ⊖ d ⊗ w) ⊖ l ⊗ (e ⊗ x ⊕ f ⊗ y ⊕ g ⊗ z ⊖ h ⊗ w)) cancels

-- 0, and the heights of the chord's ends
abbrev level : Heights → Heights → Heights
level h e =
    record { a = pos 0; b = end_height h.a h.b e.a e.b; c = end_height h.a h.c e.a e.c }

-- a triangle has the height 0 at its first corner, and elsewhere those of the chord's ends
mixed_heights : (e m : Plane) (u : Tri) → heights_of (mixed (heights_of m u).a e (heights_of e u).a m) u ≡ level (heights_of m u) (heights_of e u)
mixed_heights e m u =
    let h = heights_of m u in let g = heights_of e u in
    λ i. record {
      a = (mixed_value h.a e g.a m (spot_of_corner u.a) ∙ same h.a g.a) i;
      b =
          (mixed_value h.a e g.a m (spot_of_corner u.b) ∙ swapped h.a g.b g.a h.b) i;
      c =
          (mixed_value h.a e g.a m (spot_of_corner u.c) ∙ swapped h.a g.c g.a h.c) i;
    }
  where
    same : (a b : ℤ) → a *ℤ b -ℤ b *ℤ a ≡ pos 0
    same = solve 2 (λ a b. a ⊗ b ⊖ b ⊗ a ≈ num (pos 0)) cancels

    swapped : (a b c d : ℤ) → a *ℤ b -ℤ c *ℤ d ≡ a *ℤ b -ℤ d *ℤ c
    swapped = solve 4 (λ a b c d. a ⊗ b ⊖ c ⊗ d ≈ a ⊗ b ⊖ d ⊗ c) cancels

-- on the plane that cuts, the mixed plane has the edge plane's sign
mixed_value_on_cutting_plane : (k : ℤ) (e : Plane) (l : ℤ) (m : Plane) (v : Spot) → value_at m v ≡ pos 0 → value_at (mixed k e l m) v ≡ k *ℤ value_at e v
mixed_value_on_cutting_plane k e l m v z = mixed_value k e l m v ∙ rw z (solve 3 (λ k l x. k ⊗ x ⊖ l ⊗ num (pos 0) ≈ k ⊗ x) cancels k l (value_at e v))

-- a number isn't negative if a positive multiple isn't
factor_left_out_of_at_least : (k x : ℤ) → pos 0 <ℤ k → pos 0 ≤ℤ (k *ℤ x) → pos 0 ≤ℤ x
factor_left_out_of_at_least k x p h =
    cancel_le p (omega (arith, linear, h, solve 1 (λ k. k ⊗ num (pos 0) ≈ num (pos 0)) cancels k))

-- a number is positive if a positive multiple is
factor_left_out_of_over : (k x : ℤ) → pos 0 <ℤ k → pos 0 <ℤ (k *ℤ x) → pos 0 <ℤ x
factor_left_out_of_over k x p h =
    cancel_lt p (omega (arith, linear, h, solve 1 (λ k. k ⊗ num (pos 0) ≈ num (pos 0)) cancels k))

-- ---- the chord beyond an edge plane
-- the heights of the chord over e, by those over the plane that cuts and over e
abbrev chord_of : Heights → Heights → ChordHeights
chord_of h e =
    let first = end_height h.a h.b e.a e.b in let second = end_height h.a h.c e.a e.c in
    record { first = first; second = second; middle = first +ℤ second }

module _ (u : Tri) (name : CornerName) (full : is_flat u ≡ false) (m e : Plane) where
  -- the triangle with the lone corner first
  abbrev first : Tri
  first = turned_triangle name u

  -- the mixed plane that goes through the lone corner
  abbrev q : Plane
  q = mixed (heights_of m first).a e (heights_of e first).a m

  -- if the chord lies beyond the edge plane e, the triangle lies beyond the mixed plane
  lies_beyond_mixed : is_beyond (chord_of (heights_of m first) (heights_of e first)) ≡ true → lie_in_front (heights_of q u) ≡ true
  lies_beyond_mixed b =
      let x : lie_in_front (heights_of q first) ≡ true = ap lie_in_front (mixed_heights e m first) ∙ b in
      beyond_from_any_corner name (heights_of q u) (sym (ap lie_in_front (turned_triangle_heights name q u)) ∙ x)

  module _ (above : pos 0 <ℤ (heights_of m first).a)
      (b : is_beyond (chord_of (heights_of m first) (heights_of e first)) ≡ true) (v : Spot) (on : value_at m v ≡ pos 0)
    where
      -- then a point of its closed face on the plane that cuts isn't behind e
      closed_over : is_in_closed (face_of u) v ≡ true → pos 0 ≤ℤ value_at e v
      closed_over c =
          let s = (closed_beyond u full q (lies_beyond_mixed b) v c).at_least in
          factor_left_out_of_at_least (heights_of m first).a (value_at e v) above
          (rw (← mixed_value_on_cutting_plane (heights_of m first).a e (heights_of e first).a m v on) s)

      -- and an inside point is in front of it
      inside_over : is_inside (face_of u) v ≡ true → pos 0 <ℤ value_at e v
      inside_over i =
          let s = (inside_beyond u full q (lies_beyond_mixed b) v i).over in
          factor_left_out_of_over (heights_of m first).a (value_at e v) above
          (rw (← mixed_value_on_cutting_plane (heights_of m first).a e (heights_of e first).a m v on) s)

-- ---- some of several edge planes
module _ (n : Plane) (u : Tri) (full : is_flat u ≡ false) (lone : LoneCorner) (l : IsLone (heights_of n u) lone) (v : Spot) (on : value_at n v ≡ pos 0) where
  -- the lone corner is in front of the plane that cuts, turned to it
  above : pos 0 <ℤ (heights_of (plane_turned_to_lone_corner n u lone l).plane (turned_triangle lone.name u)).a
  above = subst (λ (h : Heights). pos 0 <ℤ h.a) (plane_turned_to_lone_corner n u lone l).heights l.alone.first

  -- the heights of the chord are those over this plane and the edge plane
  chord_is : (e : Plane) → chord_heights lone (heights_of e u) ≡ chord_of
      (heights_of (plane_turned_to_lone_corner n u lone l).plane (turned_triangle lone.name u))
      (heights_of e (turned_triangle lone.name u))
  chord_is e = ap2 chord_of (plane_turned_to_lone_corner n u lone l).heights (sym (turned_triangle_heights lone.name e u))

  -- a point of the closed face on the plane that cuts isn't behind all
  closed_not_behind : (planes : List Plane) → list_any is_beyond (chord_over lone (heights_over planes u)) ≡ true →
      is_in_closed (face_of u) v ≡ true → AllByRecursion (λ p. IsBelow p v) planes → ⊥
  closed_not_behind [] e k a = absurd (false≢true e)
  closed_not_behind (p ∷ planes) e k a =
      ⊎_elim (λ here. omega (
        arith,
        linear,
        a.0.under,
        closed_over u lone.name full (plane_turned_to_lone_corner n u lone l).plane p above
            (sym (ap is_beyond (chord_is p)) ∙ here) v ((plane_turned_to_lone_corner n u lone l).off v on) k,
      ))
      (λ later. closed_not_behind planes later k a.1)
      (or_cases (is_beyond (chord_heights lone (heights_of p u)))
      (list_any is_beyond (chord_over lone (heights_over planes u))) e)

  -- an inside point on it is in front of one
  inside_in_front : (planes : List Plane) → list_any is_beyond (chord_over lone (heights_over planes u)) ≡ true →
      is_inside (face_of u) v ≡ true → AllByRecursion (λ p. IsNotAbove p v) planes → ⊥
  inside_in_front [] e i a = absurd (false≢true e)
  inside_in_front (p ∷ planes) e i a =
      ⊎_elim (λ here. omega (
        arith,
        linear,
        a.0.at_most,
        inside_over u lone.name full (plane_turned_to_lone_corner n u lone l).plane p above
            (sym (ap is_beyond (chord_is p)) ∙ here) v ((plane_turned_to_lone_corner n u lone l).off v on) i,
      ))
      (λ later. inside_in_front planes later i a.1)
      (or_cases (is_beyond (chord_heights lone (heights_of p u)))
      (list_any is_beyond (chord_over lone (heights_over planes u))) e)

-- triangles don't meet if the chord of one lies beyond an edge of the other
pub parted_by_chord : (t u : Tri) → HasChordBeyond (heights_of (support_of t) u) (heights_over (edges_of t) u) → AreMeeting t u → ⊥
unfolding face_of
parted_by_chord t u x m =
    ⊎_elim (λ i. closed_not_behind (support_of t) u m.other x.lone x.is_lone i.at
    (inside_out (face_of t) i.at i.inside).flat (edges_of t) x.beyond i.holds
    (inside_out (face_of t) i.at i.inside).within)
    (λ c. inside_in_front (support_of t) u m.other x.lone x.is_lone c.at (closed_out (face_of t) c.at c.holds).flat
    (edges_of t) x.beyond c.inside (closed_out (face_of t) c.at c.holds).within) m.meet
