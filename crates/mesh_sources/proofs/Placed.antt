-- Places, by the tests of their boxes and edges
use Rattle.std.proofs.Common.{◌≡◌, ◌≢◌, ◌⊎◌, ◌↔◌, ⊎_elim, inl, inr, refl, sym, subst, pos, ◌<ℤ◌, Bool, true, false, not}
use Rattle.std.specs.Prelude.{IsTrue}
use Rattle.ember_model.specs.declared.plane.Plane.{Plane}
use Rattle.ember_model.specs.declared.tri.Tri.{Tri}
use Rattle.ember_model.specs.Planes.{value_at}
use Rattle.ember_model.specs.Valid.{IsValidTri}
use Rattle.mesh_sources.specs.declared.corners.Corners.{Corners}
use Rattle.mesh_sources.specs.declared.facet.Facet.{Facet}
use Rattle.mesh_sources.specs.declared.spans.SpaceBox.{SpaceBox}
use Rattle.mesh_sources.specs.Places.{Spots, EachSpot, AreOn, HasOuter, AreApart, IsProper, IsPlace, facing, is_turned, spots_of, spots_in_order, spots_turned}
use Rattle.mesh_sources.specs.Spans.{HaveCommonBox, IsBoxAround, IsBoxOver}
use Rattle.mesh_sources.proofs.BoxesApart.{apart_or_common, common_not_apart, boxes_turned, boxes_in_order, each_turned}

pub clash : {P : Type 0} {b : Bool} → b ≡ false → b ≡ true → P
clash e f = cc

pub positive_weights : (c : Corners) → EachSpot (λ v. pos 0 <ℤ v.w) (spots_of c)
positive_weights c = (c.u.valid.positive, c.v.valid.positive, c.w.valid.positive)

pub proper_is_on : (f : Facet) → IsProper f → AreOn f.plane (spots_of f.corners)
proper_is_on f h = (h.first, h.second, h.third)

-- the corners in either order lie in the plane
pub turned_is_on : (p : Plane) (t : Tri) (b : Bool) (s : Spots) → s ≡ spots_turned b t → AreOn p (spots_in_order t) → AreOn p s
turned_is_on p t b s e h = subst (AreOn p) (sym e) (each_turned (λ x. value_at p x ≡ pos 0) b t h)

module _ (f : Facet) (t : Tri) (b : Bool) (box around : SpaceBox) (valid : IsValidTri t) (is : IsBoxAround box t) (over : IsBoxOver around (spots_of f.corners)) where
  pub apart_by_boxes : (HaveCommonBox box around → ⊥) → AreApart f.plane (spots_of f.corners) (spots_turned b t)
  apart_by_boxes n =
      ⊎_elim (λ e. inl (boxes_turned (spots_of f.corners) b t e)) (λ h. absurd (n h))
      (apart_or_common box around t (spots_of f.corners) valid is over (positive_weights f.corners))

  -- where the boxes aren't apart, an edge decides
  pub apart_by_edges : HaveCommonBox box around → (s : Spots) → s ≡ spots_turned b t → AreApart f.plane (spots_of f.corners) (spots_turned b t) →
      HasOuter f.plane (spots_of f.corners) s ⊎ HasOuter f.plane s (spots_of f.corners)
  apart_by_edges h s e a =
      ⊎_elim (λ d. absurd (common_not_apart box around t (spots_of f.corners) valid is over h (boxes_in_order (spots_of f.corners) b t d)))
      (λ o. subst (λ (s : Spots). HasOuter f.plane (spots_of f.corners) s ⊎ HasOuter f.plane s (spots_of f.corners)) (sym e) o) a

pub apart_from_edges : (f : Facet) (t : Tri) (b : Bool) (s : Spots) → s ≡ spots_turned b t →
    HasOuter f.plane (spots_of f.corners) s ⊎ HasOuter f.plane s (spots_of f.corners) → AreApart f.plane (spots_of f.corners) (spots_turned b t)
apart_from_edges f t b s e o =
    inr (subst (λ (s : Spots). HasOuter f.plane (spots_of f.corners) s ⊎ HasOuter f.plane s (spots_of f.corners)) e o)

-- a triangle with an area in the plane of a proper facet is a place exactly if the two aren't apart
pub placed : (f : Facet) (t : Tri) (b : Bool) → IsProper f → AreOn f.plane (spots_in_order t) → facing f.plane t ≢ pos 0 →
    (IsTrue b ↔ AreApart f.plane (spots_of f.corners) (spots_turned (is_turned f.plane t) t)) → IsTrue (not b) ↔ IsPlace f t
placed f t true p on area e = (λ h. clash refl h, λ h. absurd (h.meets (e.0 refl)))
placed f t false p on area e = (
  λ h. record { proper = p; lies = on; area = area; meets = λ a. clash refl (e.1 a) },
  λ h. refl,
)
