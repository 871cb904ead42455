-- The planes of an outline give the points of the face.
use Rattle.std.proofs.Common.{◌≡◌, ◌≢◌, ◌⊎◌, inl, inr, refl, subst, ◌∙◌, arith, ℕ, zero, suc, Some, slice_get, List, [], ◌∷◌, map, ℤ, pos, ◌<ℤ◌, ◌≤ℤ◌}
use Rattle.std.proofs.lemmas.Int.{by_lt_z}
use Rattle.std.specs.List.{AllByRecursion}
use Rattle.ember_algebra.proofs.Laws.{linear}
use Rattle.ember_algebra.proofs.Booleans.{same_test}
use Rattle.ember_model.specs.declared.plane.Plane.{Plane}
use Rattle.ember_model.specs.declared.point.Spot.{Spot}
use Rattle.ember_model.specs.declared.face.Face.{Face}
use Rattle.ember_model.specs.Planes.{value_at}
use Rattle.ember_model.specs.Faces.{is_inside, is_in_closed}
use Rattle.ember_model.specs.Edges.{HasEdge, SameEdge, RingEdge, IsEdge, IsEdgeChain, HasEdgeOf, IsOutline}
use Rattle.ember_model.proofs.SignTests.{positive_nonzero}
use Rattle.ember_poly.specs.Cuts.{HasInside}
use Rattle.ember_poly.specs.Outlines.{SamePoints, face_of_edges}
use Rattle.ember_poly.specs.Rings.{IsBelow, IsNotAbove, InFace, InClosedFace, orientation}
use Rattle.ember_poly.proofs.Chains.{each_map}
use Rattle.ember_poly.proofs.FaceTests.{closed_in, closed_out, inside_in, inside_out, edge_out}
use Rattle.ember_poly.proofs.RingOutline.{each_get}
use Rattle.ember_poly.proofs.RedundantPlanes.{closed_follows, plane_follows}
use Rattle.ember_poly.proofs.SameSide.{toward, turns_toward, same_side}

-- ---- lists
each_place : {X : Type 0} (P : X → Type 0) (xs : List X) → ((i : ℕ) (x : X) → slice_get xs i ≡ Some x → P x) → AllByRecursion P xs
each_place P [] h = tt
each_place P (x ∷ xs) h = (h zero x refl, each_place P xs (λ i y e. h (suc i) y e))

each_plane : (P : Plane → Type 0) (es : List RingEdge) → AllByRecursion (λ e. P e.plane) es → AllByRecursion P (map (λ e. e.plane) es)
each_plane P [] a = tt
each_plane P (e ∷ es) a = (a.0, each_plane P es a.1)

plane_each : (P : Plane → Type 0) (es : List RingEdge) → AllByRecursion P (map (λ e. e.plane) es) → AllByRecursion (λ e. P e.plane) es
plane_each P [] a = tt
plane_each P (e ∷ es) a = (a.0, plane_each P es a.1)

-- a list of planes in two parts: those with the one property, and those with the other
record Parts (P Q : Plane → Type 0) (gs : List Plane) : Type 1 where
  one : List Plane
  other : List Plane
  are_other : AllByRecursion Q other
  are_one : AllByRecursion P one
  join : (R : Plane → Type 0) → AllByRecursion R one → AllByRecursion R other → AllByRecursion R gs
  of_one : (R : Plane → Type 0) → AllByRecursion R gs → AllByRecursion R one
  of_other : (R : Plane → Type 0) → AllByRecursion R gs → AllByRecursion R other

parts : (P Q : Plane → Type 0) (gs : List Plane) → AllByRecursion (λ g. P g ⊎ Q g) gs → Parts P Q gs
parts P Q [] a =
    record { one = []; other = []; are_other = tt; are_one = tt; join = λ R x y. tt; of_one = λ R x. tt; of_other = λ R x. tt }
parts P Q (g ∷ gs) a = by a.0 (parts P Q gs a.1)
  where
    by : P g ⊎ Q g → Parts P Q gs → Parts P Q (g ∷ gs)
    by (inl p) s =
        record {
          one = g ∷ s.one;
          other = s.other;
          are_other = s.are_other;
          are_one = (p, s.are_one);
          join =
              λ R x y. (x.0, s.join R x.1 y);
          of_one = λ R x. (x.0, s.of_one R x.1);
          of_other = λ R x. s.of_other R x.1;
        }
    by (inr q) s =
        record {
          one = s.one;
          other = g ∷ s.other;
          are_other = (q, s.are_other);
          are_one = s.are_one;
          join =
              λ R x y. (y.0, s.join R x y.1);
          of_one = λ R x. s.of_one R x.1;
          of_other = λ R x. (x.0, s.of_other R x.1);
        }

-- ---- the edges of an outline
-- the edge with some end
pub record Ended (f : Face) (e : RingEdge) : Type 0 where
  pub end : Spot
  pub is : IsEdge f e end

-- each edge of a path has one
pub edge_has_end : (f : Face) (end : Spot) (es : List RingEdge) → IsEdgeChain f end es → AllByRecursion (λ e. Ended f e) es
edge_has_end f end [] p = tt
edge_has_end f end (e ∷ []) p = (record { end = end; is = p }, tt)
edge_has_end f end (e ∷ d ∷ es) p = (record { end = d.start; is = p.0 }, edge_has_end f end (d ∷ es) p.1)

-- what all planes of f have, the outline's have
of_edges : (f : Face) (P : Plane → Type 0) (es : List RingEdge) → AllByRecursion (λ e. Ended f e) es →
    AllByRecursion P f.edges → AllByRecursion P (map (λ e. e.plane) es)
of_edges f P es ends all =
    each_plane P es (each_map (λ e. Ended f e) (λ e. P e.plane) es (λ e d. each_get P f.edges d.is.is_earliest.index e.plane all d.is.is_earliest.here) ends)

module _ (f : Face) (o q : Spot) (io : InFace f.support f.edges o) (flat : value_at f.support q ≡ pos 0) where
  -- a plane with the edge of e is negative where that of e is
  with_edge : (e : RingEdge) (g : Plane) → Ended f e → IsBelow g o → SameEdge f g e.plane → IsBelow e.plane q → IsBelow g q
  with_edge e g d low same u =
      let x = edge_out f e.plane e.start d.is.starts in let y = edge_out f e.plane d.end d.is.ends in
      let gx = edge_out f g e.start (same e.start ∙ d.is.starts) in
      let gy = edge_out f g d.end (same d.end ∙ d.is.ends) in
      let eo = each_get (λ h. IsBelow h o) f.edges d.is.is_earliest.index e.plane io.within d.is.is_earliest.here in
      record {
        under = same_side f.support e.plane g e.start d.end d.is.leads x.closed.flat y.closed.flat x.zero y.zero
            gx.zero gy.zero o q x.closed.weight io.flat flat eo.under low.under u.under;
      }

  among_under : (g : Plane) → IsBelow g o → (es : List RingEdge) → AllByRecursion (λ e. Ended f e) es →
      AllByRecursion (λ e. IsBelow e.plane q) es → HasEdgeOf f g es → IsBelow g q
  among_under g low [] ends us m = absurd m
  among_under g low (e ∷ es) ends us (inl same) = with_edge e g ends.0 low same us.0
  among_under g low (e ∷ es) ends us (inr m) = among_under g low es ends.1 us.1 m

module _ (f : Face) (es : List RingEdge) (o : Spot) (io : InFace f.support f.edges o) (line : IsOutline f es) where
  abbrev planes : List Plane
  planes = map (λ e. e.plane) es

  ends : AllByRecursion (λ e. Ended f e) es
  ends = edge_has_end f line.first.start es line.round

  first_end : Ended f line.first
  first_end = (subst (λ es. AllByRecursion (λ e. Ended f e) es) line.begins ends).0

  turns : orientation f.support line.first.plane (toward line.first.start first_end.end) ≢ pos 0
  turns = positive_nonzero (turns_toward f.support line.first.plane line.first.start first_end.end first_end.is.leads)

  -- each plane is negative at q, or doesn't count
  sides : (q : Spot) → InFace f.support planes q → AllByRecursion (λ g. IsBelow g q ⊎ (HasEdge f g → ⊥)) f.edges
  sides q iq =
      each_place (λ g. IsBelow g q ⊎ (HasEdge f g → ⊥)) f.edges
      (λ i g e. by_lt_z (value_at g q) (pos 0) (λ l. inl (record { under = l }))
      (λ l. inr (λ c. clash l (among_under f o q io iq.flat g (each_get (λ g. IsBelow g o) f.edges i g io.within e) es
      ends (plane_each (λ g. IsBelow g q) es iq.within) (line.all i g e c)).under)))
    where
      clash : {a : ℤ} → pos 0 ≤ℤ a → a <ℤ pos 0 → ⊥
      clash p l = absurd (omega (arith, linear, p, l))

  from_outline : (q : Spot) → InFace f.support planes q → InFace f.support f.edges q
  from_outline q iq = record { flat = iq.flat; weight = iq.weight; within = by (parts (λ g. IsBelow g q) (λ g. HasEdge f g → ⊥) f.edges (sides q iq)) }
    where
      by : Parts (λ g. IsBelow g q) (λ g. HasEdge f g → ⊥) f.edges → AllByRecursion (λ g. IsBelow g q) f.edges
      by s =
          s.join (λ g. IsBelow g q) s.are_one (plane_follows f.support line.first.plane
          (toward line.first.start first_end.end) turns o f s.one s.other
          (record { flat = io.flat; weight = io.weight; within = s.of_one (λ g. IsBelow g o) io.within })
          (s.of_other (λ g. IsBelow g o) io.within) s.are_other
          (λ v i a. closed_in f v (record {
            flat = i.flat;
            weight = i.weight;
            within =
                s.join (λ g. IsNotAbove g v) i.within a;
          })) q
          (record { flat = iq.flat; weight = iq.weight; within = s.are_one }))

  to_outline : (q : Spot) → InFace f.support f.edges q → InFace f.support planes q
  to_outline q iq =
      record { flat = iq.flat; weight = iq.weight; within = of_edges f (λ g. IsBelow g q) es ends iq.within }

  from_closed : (q : Spot) → InClosedFace f.support planes q → InClosedFace f.support f.edges q
  from_closed q iq =
      record {
        flat = iq.flat;
        weight = iq.weight;
        within =
            closed_follows f.support planes f.edges o (to_outline o io) io.within (λ v i. (from_outline v i).within) q iq;
      }

  to_closed : (q : Spot) → InClosedFace f.support f.edges q → InClosedFace f.support planes q
  to_closed q iq =
      record { flat = iq.flat; weight = iq.weight; within = of_edges f (λ g. IsNotAbove g q) es ends iq.within }

-- a face with an inside point has the points of its outline's planes
pub outline_has_its_points : (f : Face) (es : List RingEdge) → HasInside f → IsOutline f es → SamePoints f (face_of_edges f.support es)
outline_has_its_points f es h line =
    let g = face_of_edges f.support es in
    record {
      support = refl;
      inside = λ v. same_test (is_inside f v) (is_inside g v)
          (λ e. inside_in g v (to_outline f es h.at io line v (inside_out f v e)))
          (λ e. inside_in f v (from_outline f es h.at io line v (inside_out g v e)));
      closed = λ v. same_test (is_in_closed f v) (is_in_closed g v)
          (λ e. closed_in g v (to_closed f es h.at io line v (closed_out f v e)))
          (λ e. closed_in f v (from_closed f es h.at io line v (closed_out g v e)));
    }
  where
    io : InFace f.support f.edges h.at
    io = inside_out f h.at h.inside
