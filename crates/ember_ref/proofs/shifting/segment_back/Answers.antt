use Rattle.std.proofs.Common.{◌≡◌, ℕ, sym, ap, subst, ◌∙◌}
use Rattle.ember_model.specs.declared.point.Spot.{Spot}
use Rattle.ember_model.specs.Points.{DifferAlong}
use Rattle.ember_box.specs.Boxes.{Cell, right_half, in_steps}
use Rattle.ember_box.specs.Reference.{reference_beside}
use Rattle.ember_box.proofs.InSteps.{right_in_steps}
use Rattle.ember_ref.specs.References.{vector_of_list, reference_of_list}
use Rattle.ember_ref.proofs.ReferenceLegs.{box_corner, beside_is, halves_differ}
use Rattle.ember_ref.proofs.shifting.segment_back.Goals as goal

pub returns-clause-back : goal.returns-clause-back
returns-clause-back g c =
    let n = g.W.Width.scale in let b = c.args.c.now in let k = c.args.k in
    record {
      from = ap vector_of_list c.lo_on-from.ensures.value ∙ ap (λ (h : Cell). (in_steps n h).lo) c.halves-right.ensures.1
          ∙ ap (λ (h : Cell). h.lo) (sym (right_in_steps n b k c.requires));
      to = ap vector_of_list c.lo_on-to.ensures.value;
      aabb = c.column.ensures;
    }

pub returns-clause-straight : goal.returns-clause-straight
returns-clause-straight g c =
    let n = g.W.Width.scale in let b = in_steps n c.args.c.now in let k = c.args.k in
    let start : vector_of_list c.lo_on-from.result ≡ (right_half b k).lo =
    ap vector_of_list c.lo_on-from.ensures.value ∙ ap (λ (h : Cell). (in_steps n h).lo) c.halves-right.ensures.1
    ∙ ap (λ (h : Cell). h.lo) (sym (right_in_steps n c.args.c.now k c.requires)) in
    let end : vector_of_list c.lo_on-to.result ≡ b.lo = ap vector_of_list c.lo_on-to.ensures.value in
    let line : (f : ℕ) → DifferAlong k (reference_of_list f c.lo_on-from.result) (reference_of_list f c.lo_on-to.result) =
    λ f. subst (λ (p : Spot). DifferAlong k p (reference_of_list f c.lo_on-to.result)) (sym (beside_is f c.lo_on-from.result (right_half b k).lo start))
    (subst (λ (q : Spot). DifferAlong k (reference_beside f (right_half b k).lo) q) (sym (beside_is f c.lo_on-to.result b.lo end))
    (halves_differ f b k)) in
    record {
      from = box_corner c.lo_on-from.result c.lo_on-from.ensures.small;
      to = box_corner c.lo_on-to.result c.lo_on-to.ensures.small;
      line = line;
    }
