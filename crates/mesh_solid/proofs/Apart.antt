-- Faces that are apart have no inside point in common
use Rattle.std.proofs.Common.{◌≡◌, zero, suc, Bool, true, false, not, ◌||◌, List, [], ◌∷◌, map, ℤ, pos, negsuc, ◌≤ℤ◌}
use Rattle.std.proofs.Common.{refl, arith}
use Rattle.std.specs.List.{AllByRecursion, list_all, list_any}
use Rattle.std.proofs.lemmas.Bool.{false≢true}
use Rattle.std.proofs.lemmas.Int.{ints}
use Rattle.ember_algebra.specs.Sign.{is_negative}
use Rattle.ember_algebra.proofs.Laws.{linear}
use Rattle.ember_meaning.specs.Closed.Chains.{face_from}
use Rattle.ember_model.specs.declared.plane.Plane.{Plane}
use Rattle.ember_model.specs.declared.point.Spot.{Spot}
use Rattle.ember_model.specs.Edges.{RingEdge}
use Rattle.ember_model.specs.FaceFiles.{WrittenFace}
use Rattle.ember_model.specs.Faces.{is_inside}
use Rattle.ember_model.specs.Planes.{value_at, opposite}
use Rattle.ember_poly.specs.Rings.{IsBelow, IsNotAbove, IsInsideRing}
use Rattle.ember_poly.proofs.FaceTests.{inside_out}
use Rattle.ember_poly.proofs.Hull.{corners_at_most}
use Rattle.ember_poly.proofs.ReachBySigns.{closed_from_inside, least_from_opposite, most_opposite}
use Rattle.mesh_solid.specs.Outline.Rounds.{side_of, IsRound}
use Rattle.mesh_solid.specs.Refusal.Overlaps.{are_apart, has_outer, is_beyond}
use Rattle.mesh_solid.proofs.Signs.{all_found}

at_least_zero : (z : ℤ) → not (is_negative z) ≡ true → pos 0 ≤ℤ z
at_least_zero (pos zero) e = omega (arith, ints)
at_least_zero (pos (suc n)) e = omega (arith, ints)
at_least_zero (negsuc n) e = absurd (false≢true e)

-- the planes of edges are those of their sides
sides_below : (p : Spot) (es : List RingEdge) → AllByRecursion (λ g. IsBelow g p) (map (λ (e : RingEdge). e.plane) es) →
    AllByRecursion (λ s. IsBelow s.plane p) (map side_of es)
sides_below p [] h = tt
sides_below p (e ∷ es) h = (h.0, sides_below p es h.1)

module _ (w : WrittenFace) (p : Spot) (round : IsRound w) (inside : is_inside (face_from w) p ≡ true) where
  -- a plane with the face in front of it or on it has no inside point of the face behind it
  not_behind : (q : Plane) → IsBelow q p → is_beyond q w ≡ true → ⊥
  not_behind q below e =
      let within = inside_out (face_from w) p inside in
      let ring : IsInsideRing w.support (map side_of w.edges) p =
      record { flat = within.flat; weight = within.weight; within = sides_below p w.edges within.within } in
      let corners = all_found (λ (e : RingEdge). not (is_negative (value_at q e.start))) side_of
      (λ r. IsNotAbove (opposite q) r.corner)
      (λ d t. most_opposite q d.start (record { at_least = at_least_zero (value_at q d.start) t })) w.edges e in
      let point = corners_at_most w.support (opposite q) p (map side_of w.edges) round corners
      (closed_from_inside w.support (map side_of w.edges) p ring) in
      let least = (least_from_opposite q p point).at_least in
      let under = below.under in omega (arith, linear, least, under)

  -- so no edge of a face with this inside point has it on its outer side
  no_edge : (es : List RingEdge) → AllByRecursion (λ g. IsBelow g p) (map (λ (e : RingEdge). e.plane) es) →
      list_any (λ e. is_beyond e.plane w) es ≡ true → ⊥
  no_edge [] h e = false≢true e
  no_edge (d ∷ es) h e = by (is_beyond d.plane w) refl e (no_edge es h.1)
    where
      by : (b : Bool) → is_beyond d.plane w ≡ b → b || list_any (λ e. is_beyond e.plane w) es ≡ true →
          (list_any (λ e. is_beyond e.plane w) es ≡ true → ⊥) → ⊥
      by true t e r = not_behind d.plane h.0 t
      by false t e r = r e

  no_outer : (v : WrittenFace) → is_inside (face_from v) p ≡ true → has_outer v w ≡ true → ⊥
  no_outer v i e = no_edge v.edges (inside_out (face_from v) p i).within e

-- faces with a common inside point aren't apart
pub common_inside_is_not_apart : (v w : WrittenFace) (p : Spot) → IsRound v → IsRound w →
    is_inside (face_from v) p ≡ true → is_inside (face_from w) p ≡ true → are_apart v w ≡ false
common_inside_is_not_apart v w p a b i j = by (has_outer v w) refl (has_outer w v) refl
  where
    by : (x : Bool) → has_outer v w ≡ x → (y : Bool) → has_outer w v ≡ y → x || y ≡ false
    by true e y f = absurd (no_outer w p b j v i e)
    by false e true f = absurd (no_outer v p a i w j f)
    by false e false f = refl
