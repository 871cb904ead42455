-- Bounds: wider ones, and those that are apart
use Rattle.std.proofs.Common.{◌≡◌, ⊎_elim, inl, arith, pos, ◌<ℤ◌}
use Rattle.ember_algebra.proofs.Laws.{linear}
use Rattle.ember_model.specs.declared.tri.Tri.{Tri}
use Rattle.ember_model.specs.Valid.{IsValidTri}
use Rattle.mesh_sources.specs.declared.facet.Facet.{Facet}
use Rattle.mesh_sources.specs.declared.nodes.Bounds.{Bounds}
use Rattle.mesh_sources.specs.declared.spans.Span.{Span}
use Rattle.mesh_sources.specs.declared.spans.SpaceBox.{SpaceBox}
use Rattle.mesh_sources.specs.Places.{EachSpot, spots_of, is_turned, IsPlace}
use Rattle.mesh_sources.specs.Spans.{HaveCommon, IsSpanWithin, HaveCommonBox, IsBoxWithin}
use Rattle.mesh_sources.specs.Nodes.{AreBoundsWithin, AreBoundsOf, AreBoundsOver, HaveCommonBounds}
use Rattle.mesh_sources.proofs.BoxesApart.{apart_or_common, boxes_turned}
use Rattle.mesh_sources.proofs.SamePlanes.{same_mark}

span_link : {s t u : Span} → IsSpanWithin s t → IsSpanWithin t u → IsSpanWithin s u
span_link h k = record { low = omega (arith, linear, h.low, k.low); high = omega (arith, linear, h.high, k.high) }

box_link : {a b c : SpaceBox} → IsBoxWithin a b → IsBoxWithin b c → IsBoxWithin a c
box_link h k = (span_link h.0 k.0, span_link h.1 k.1, span_link h.2 k.2)

pub bounds_link : {a b c : Bounds} → AreBoundsWithin a b → AreBoundsWithin b c → AreBoundsWithin a c
bounds_link h k = record { mark = span_link h.mark k.mark; around = box_link h.around k.around }

-- wider bounds have what the narrower ones have
pub bounds_widened : {b c : Bounds} {t : Tri} → AreBoundsOf b t → AreBoundsWithin b c → AreBoundsOf c t
bounds_widened h k =
    record {
      mark = h.mark;
      has_mark = h.has_mark;
      from = omega (arith, linear, h.from, k.mark.low);
      to = omega (arith, linear, h.to, k.mark.high);
      around = h.around;
      is_box = h.is_box;
      within = box_link h.within k.around;
    }

common_widened : {s t u : Span} → HaveCommon s u → IsSpanWithin s t → HaveCommon t u
common_widened h k = record { one = omega (arith, linear, h.one, k.low); other = omega (arith, linear, h.other, k.high) }

-- bounds without anything in common with those of a facet have none of its places
pub far_away : (b q : Bounds) (f : Facet) (t : Tri) → EachSpot (λ v. pos 0 <ℤ v.w) (spots_of f.corners) → IsValidTri t →
    AreBoundsOf b t → AreBoundsOver q f → (HaveCommonBounds b q → ⊥) → IsPlace f t → ⊥
far_away b q f t positive valid h over apart place =
    apart (record { mark = marks; box = boxes })
  where
    same : q.mark.low ≡ h.mark
    same = same_mark f.plane t place.lies q.mark.low h.mark place.area over.mark h.has_mark

    marks : HaveCommon b.mark q.mark
    marks =
        record { one = omega (arith, linear, same, over.one, h.from); other = omega (arith, linear, same, h.to) }

    near : HaveCommonBox h.around q.around
    near =
        ⊎_elim (λ e. absurd (place.meets (inl (boxes_turned (spots_of f.corners) (is_turned f.plane t) t e)))) (λ c. c)
        (apart_or_common h.around q.around t (spots_of f.corners) valid h.is_box over.box positive)

    boxes : HaveCommonBox b.around q.around
    boxes =
        (common_widened near.0 h.within.0, common_widened near.1 h.within.1, common_widened near.2 h.within.2)
