-- What the corners of a triangle show of a region in its plane.
use Rattle.std.proofs.Common.{◌≡◌, ◌⊎◌, inl, inr, refl, sym, ap, subst, ◌∙◌, arith, ℕ, zero, suc, ◌+◌, ◌<◌, Bool, true}
use Rattle.std.proofs.Common.{false, ◌&&◌, ◌<ℤ◌, List, [], ◌∷◌, ◌++◌, map, length, take, get_or, ℤ, pos}
use Rattle.std.specs.List.{AllByRecursion}
use Rattle.std.proofs.lemmas.List.{take_more}
use borrow.Author.Differences.{ints}
use Rattle.std.proofs.lemmas.Bool.{and_parts}
use Rattle.ember_algebra.specs.Sign.{sign, is_negative}
use Rattle.ember_model.specs.declared.plane.Plane.{Plane}
use Rattle.ember_model.specs.declared.point.Corner.{Corner}
use Rattle.ember_model.specs.declared.point.Spot.{Spot}
use Rattle.ember_model.specs.declared.tri.Tri.{Tri}
use Rattle.ember_model.specs.declared.face.Face.{Face}
use Rattle.ember_model.specs.Planes.{value_at, along, unit, main_axis, support_of, zero_plane}
use Rattle.ember_model.specs.Faces.{is_flat, face_of, is_in_closed, Meets}
use Rattle.ember_model.specs.Edges.{IsOutline}
use Rattle.ember_model.specs.Owners.{spot_of_corner}
use Rattle.ember_model.proofs.SignTests.{negative_out}
use Rattle.ember_poly.specs.Cuts.{HasInside}
use Rattle.ember_poly.specs.Outlines.{SamePoints}
use Rattle.ember_poly.specs.Rings.{Side, IsBelow}
use Rattle.ember_poly.specs.Sides.{ring_edges}
use Rattle.ember_poly.proofs.FaceTests.{inside_in, inside_out}
use Rattle.ember_poly.proofs.InsidePoints.{corner_closed}
use Rattle.ember_poly.proofs.OutlinePoints.{outline_has_its_points}
use Rattle.ember_poly.proofs.Triangle.{side_along}
use Rattle.ember_poly.proofs.TriangleRing.{stands}
use Rattle.ember_leaf.specs.Contact.{HasParting, IsBehind}
use Rattle.ember_leaf.specs.Cutters.{ShareAPlane}
use Rattle.ember_leaf.proofs.TriRelations.{front_at_least, under_least}
use Rattle.ember_leaf.proofs.TriFaces.{closed_at_least, closed_ring, ring_closed}

-- ---- one plane more
behind_push : (P : Plane → Type 0) (es : List Plane) (g : Plane) → AllByRecursion P es → P g → AllByRecursion P (es ++ g ∷ [])
behind_push P [] g h p = (p, tt)
behind_push P (e ∷ es) g h p = (h.0, behind_push P es g h.1 p)

-- a corner that is behind the first i planes, and behind the next one
pub behind_more : (es : List Plane) (i : ℕ) (c : Corner) {old new : Bool} {x : ℤ} → i < length es →
    x ≡ value_at (get_or es i zero_plane) (spot_of_corner c) → new ≡ old && is_negative x →
    (old ≡ true → IsBehind (take i es) c) → new ≡ true → IsBehind (take (i + 1) es) c
behind_more es i c {old} {new} {x} l e q h t =
    let k = and_parts old (is_negative x) (sym q ∙ t) in let g = get_or es i zero_plane in
    subst (λ (us : List Plane). IsBehind us c) (sym (take_more es i zero_plane l))
    (behind_push (λ g. IsBelow g (spot_of_corner c)) (take i es) g (h k.0)
    (record { under = subst (λ z. z <ℤ pos 0) e (negative_out x k.1) }))

-- ---- the triangle's corners lie in its closed face
abbrev side_at : Tri → Corner → Corner → ℕ → Side
side_at t u v b =
    let k = main_axis (support_of t) in side_along (sign (along (support_of t) k)) (unit k) u v b

record Corners (t : Tri) : Type 0 where
  a : is_in_closed (face_of t) (spot_of_corner t.a) ≡ true
  b : is_in_closed (face_of t) (spot_of_corner t.b) ≡ true
  c : is_in_closed (face_of t) (spot_of_corner t.c) ≡ true

corners : (t : Tri) → is_flat t ≡ false → Corners t
corners t n =
    let h = (stands t n).sound in let s = support_of t in
    let x = side_at t t.a t.b 0 in let y = side_at t t.b t.c 1 in let z = side_at t t.c t.a 2 in
    record {
      a = ring_closed t (spot_of_corner t.a) (corner_closed s [] x (y ∷ z ∷ []) h);
      b =
          ring_closed t (spot_of_corner t.b) (corner_closed s (x ∷ []) y (z ∷ []) h);
      c =
          ring_closed t (spot_of_corner t.c) (corner_closed s (x ∷ y ∷ []) z [] h);
    }

-- ---- the region's edges
planes_are : {M : Type 0} (spot : M → Spot) (es : List Plane) (ms : List M) → length ms ≡ length es → map (λ e. e.plane) (ring_edges spot es ms) ≡ es
planes_are spot [] ms l = refl
planes_are spot (e ∷ es) [] l = absurd (omega (arith, l))
planes_are spot (e ∷ es) (m ∷ ms) l = ap (λ us. e ∷ us) (planes_are spot es ms (omega (arith, l)))

at_place : (P : Plane → Type 0) (es : List Plane) (i : ℕ) (d : Plane) → i < length es → AllByRecursion P es → P (get_or es i d)
at_place P [] i d l h = absurd (omega (arith, l))
at_place P (e ∷ es) zero d l h = h.0
at_place P (e ∷ es) (suc i) d l h = at_place P es i d (omega (arith, l)) h.1

module _ {M : Type 0} (spot : M → Spot) (f : Face) (es : List Plane) (ms : List M) (o : IsOutline f (ring_edges spot es ms)) (l : length ms ≡ length es) where
  same : HasInside f → SamePoints f (record { support = f.support; edges = es })
  same s =
      subst (λ (us : List Plane). SamePoints f (record { support = f.support; edges = us })) (planes_are spot es ms l)
      (outline_has_its_points f (ring_edges spot es ms) s o)

  -- an edge that has no corner of the triangle behind it parts the two
  pub parting_unmet : (t : Tri) → is_flat t ≡ false → HasParting es t → Meets f (face_of t) → ⊥
  parting_unmet t n h m =
      let v = m.at in let k = same (record { at = v; inside = m.inside; holds = tt }) in let g = get_or es h.index zero_plane in
      let u = at_place (λ e. IsBelow e v) es h.index zero_plane h.before
      (inside_out (record { support = f.support; edges = es }) v (sym (k.inside v) ∙ m.inside)).within in
      under_least u (closed_at_least t n g v (front_at_least g t h.parts) (closed_ring t v m.holds))

  -- a corner of the triangle behind all edges is a common point
  behind_met : (t : Tri) (c : Corner) → HasInside f → ShareAPlane t f → is_in_closed (face_of t) (spot_of_corner c) ≡ true → IsBehind es c → Meets f (face_of t)
  behind_met t c s p i h =
      let k = same s in
      record {
        at = spot_of_corner c;
        inside = k.inside (spot_of_corner c)
            ∙ inside_in (record { support = f.support; edges = es }) (spot_of_corner c)
            (record { flat = p.triangle (spot_of_corner c) i; weight = omega (arith, ints); within = h });
        holds = i;
      }

  -- if a corner of the triangle is behind all edges of a region in its plane, the two meet
  pub contact_met : (t : Tri) → is_flat t ≡ false → HasInside f → ShareAPlane t f → IsBehind es t.a ⊎ (IsBehind es t.b ⊎ IsBehind es t.c) → Meets f (face_of t)
  contact_met t n s p (inl h) = behind_met t t.a s p (corners t n).a h
  contact_met t n s p (inr (inl h)) = behind_met t t.b s p (corners t n).b h
  contact_met t n s p (inr (inr h)) = behind_met t t.c s p (corners t n).c h
