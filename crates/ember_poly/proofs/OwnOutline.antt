-- An outline of a face is one of the face that has the outline's planes alone.
use Rattle.std.proofs.Common.{◌≡◌, inl, inr, refl, sym, ap, subst, ◌∙◌, arith, ℕ, zero, suc, ◌<◌, Bool, ◌&&◌, Some}
use Rattle.std.proofs.Common.{slice_get, List, [], ◌∷◌, ◌++◌, map, length, append_assoc}
use Rattle.std.specs.List.{AllByRecursion}
use Rattle.ember_algebra.specs.Sign.{is_zero}
use Rattle.ember_algebra.proofs.Booleans.{same_some}
use Rattle.ember_model.specs.declared.plane.Plane.{Plane}
use Rattle.ember_model.specs.declared.point.Spot.{Spot}
use Rattle.ember_model.specs.declared.face.Face.{Face}
use Rattle.ember_model.specs.Planes.{value_at}
use Rattle.ember_model.specs.Edges.{is_on_edge, HasEdge, SameEdge, RingEdge, IsEdge, IsEdgeChain, HasEdgeOf, HaveDistinctEdges, IsOutline}
use Rattle.ember_poly.specs.Cuts.{HasInside}
use Rattle.ember_poly.specs.Outlines.{face_of_edges}
use Rattle.ember_poly.proofs.OutlinePoints.{outline_has_its_points}

abbrev planes_of : List RingEdge → List Plane
planes_of es = map (λ e. e.plane) es

-- ---- the place of an edge in the list
at_its_place : (us : List RingEdge) (e : RingEdge) (ws : List RingEdge) → slice_get (planes_of (us ++ e ∷ ws)) (length us) ≡ Some e.plane
at_its_place [] e ws = refl
at_its_place (u ∷ us) e ws = at_its_place us e ws

-- no earlier plane gives its edge
none_earlier : (f : Face) (us : List RingEdge) (e : RingEdge) (ws : List RingEdge) →
    HaveDistinctEdges f (us ++ e ∷ ws) → (i : ℕ) (h : Plane) → i < length us →
    slice_get (planes_of (us ++ e ∷ ws)) i ≡ Some h → SameEdge f h e.plane → ⊥
none_earlier f [] e ws a i h l g s = absurd (omega arith)
none_earlier f (u ∷ us) e ws a zero h l g s =
    apart us a.0 (subst (λ (h : Plane). SameEdge f h e.plane) (sym (same_some g)) s)
  where
    apart : (us : List RingEdge) → AllByRecursion (λ d. SameEdge f u.plane d.plane → ⊥) (us ++ e ∷ ws) → SameEdge f u.plane e.plane → ⊥
    apart [] a s = a.0 s
    apart (v ∷ us) a s = apart us a.1 s
none_earlier f (u ∷ us) e ws a (suc i) h l g s =
    none_earlier f us e ws a.1 i h (omega arith) g s

-- each plane of the list is that of a member
among : (f : Face) (es : List RingEdge) (i : ℕ) (h : Plane) → slice_get (planes_of es) i ≡ Some h → HasEdgeOf f h es
among f [] i h g = absurd (absent g)
  where
    absent : slice_get [] i ≡ Some h → ⊥
    absent g = cc
among f (e ∷ es) zero h g = inl (λ v. ap (λ (p : Plane). is_on_edge f p v) (sym (same_some g)))
among f (e ∷ es) (suc i) h g = inr (among f es i h g)

-- ---- the face of the outline's planes has the points of f
module _ (f : Face) (es : List RingEdge) (line : IsOutline f es) (on : (g : Plane) (v : Spot) →
    is_on_edge f g v ≡ is_on_edge (face_of_edges f.support es) g v) where
  abbrev own : Face
  own = face_of_edges f.support es

  apart : (ds : List RingEdge) → HaveDistinctEdges f ds → HaveDistinctEdges own ds
  apart [] a = tt
  apart (e ∷ ds) a = (each ds a.0, apart ds a.1)
    where
      each : (cs : List RingEdge) → AllByRecursion (λ d. SameEdge f e.plane d.plane → ⊥) cs → AllByRecursion (λ d. SameEdge own e.plane d.plane → ⊥) cs
      each [] b = tt
      each (d ∷ cs) b = (λ s. b.0 (λ v. on e.plane v ∙ s v ∙ sym (on d.plane v)), each cs b.1)

  own_apart : HaveDistinctEdges own es
  own_apart = apart es line.once

  own_edge : (us : List RingEdge) (e : RingEdge) (ws : List RingEdge) (end : Spot) → es ≡ us ++ e ∷ ws → IsEdge f e end → IsEdge own e end
  own_edge us e ws end q h =
      record {
        is_earliest = record {
          index = length us;
          here = ap (λ (cs : List RingEdge). slice_get (planes_of cs) (length us)) q ∙ at_its_place us e ws;
          holds = λ v. refl;
          earliest = λ i h l g s. none_earlier own us e ws
              (subst (λ (cs : List RingEdge). HaveDistinctEdges own cs) q own_apart) i h l
              (sym (ap (λ (cs : List RingEdge). slice_get (planes_of cs) i) q) ∙ g) s;
        };
        starts = sym (on e.plane e.start) ∙ h.starts;
        ends = sym (on e.plane end) ∙ h.ends;
        leads = h.leads;
        from_start = λ v o. h.from_start v (on e.plane v ∙ o);
        to_end = λ v o. h.to_end v (on e.plane v ∙ o);
      }

  own_path : (us ds : List RingEdge) (end : Spot) → es ≡ us ++ ds → IsEdgeChain f end ds → IsEdgeChain own end ds
  own_path us [] end q p = tt
  own_path us (e ∷ []) end q p = own_edge us e [] end q p
  own_path us (e ∷ d ∷ ds) end q p =
      (own_edge us e (d ∷ ds) d.start q p.0, own_path (us ++ e ∷ []) (d ∷ ds) end (q ∙ sym (append_assoc us (e ∷ []) (d ∷ ds))) p.1)

  counts : (g : Plane) → HasEdge f g → HasEdge own g
  counts g c =
      record {
        one = c.one;
        other = c.other;
        holds_one = sym (on g c.one) ∙ c.holds_one;
        holds_other =
            sym (on g c.other) ∙ c.holds_other;
        different = c.different;
      }

  is_own_outline : IsOutline own es
  is_own_outline =
      record {
        first = line.first;
        rest = line.rest;
        begins = line.begins;
        earliest = record {
          index = 0;
          here = ap (λ (cs : List RingEdge). slice_get (planes_of cs) 0) line.begins;
          holds = counts line.first.plane line.earliest.holds;
          earliest = λ i h l. absurd (omega arith);
        };
        round = own_path [] es line.first.start refl line.round;
        all = λ i h g c. among own es i h g;
        once = own_apart;
      }

-- an outline of f is one of the face of its planes
pub outline_is_its_own : (f : Face) (es : List RingEdge) → HasInside f → IsOutline f es → IsOutline (face_of_edges f.support es) es
outline_is_its_own f es h line =
    let same = outline_has_its_points f es h line in is_own_outline f es line (λ g v. ap (λ (b : Bool). b && is_zero (value_at g v)) (same.closed v))
