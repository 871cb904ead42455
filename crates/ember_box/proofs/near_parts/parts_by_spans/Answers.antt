use Rattle.std.proofs.Common.{◌≡◌, sym, ap, ◌∙◌, subst, true, None, int_le}
use Rattle.ember_model.specs.declared.point.Axis.TheVariants.{X, Y, Z}
use Rattle.ember_box.specs.declared.aabb.Aabb.{Aabb}
use Rattle.ember_box.specs.Boxes.{in_steps}
use Rattle.ember_box.specs.Aabbs.{aabb_of_cell, aabb_of_tri, aabbs_meet}
use Rattle.ember_box.specs.Sums.{IsPlaneOf}
use Rattle.ember_box.proofs.HalfNearness.{seen_whole}
use Rattle.ember_box.proofs.InSteps.{above_in_steps}
use Rattle.ember_box.proofs.OneLook.{pair_by_span}
use Rattle.ember_box.proofs.near_parts.parts_by_spans.Goals as goal

pub returns : goal.returns
returns c = λ n unit_box t a e o plane.
    let b = c.args.middles.now in let box = in_steps n unit_box in
    let o' : aabbs_meet (aabb_of_tri t) (aabb_of_cell box) ≡ true = (λ i. aabbs_meet (sym e i) (sym a.whole i)) ∙ o in
    let plane' : IsPlaneOf (aabb_of_cell box) t None = subst (λ w. IsPlaneOf w t None) a.whole plane in
    record {
      whole = seen_whole box t None o' plane';
      x = λ may. pair_by_span box t o' X b.x c.pair_by_span.result plane' (above_in_steps n unit_box X may) (a.x may)
          (c.pair_by_span.ensures.left ∙ ap (λ (s : Aabb). int_le s.x.low b.x.at) e)
          (c.pair_by_span.ensures.right ∙ ap (λ (s : Aabb). int_le b.x.at s.x.high) e);
      y = λ may. pair_by_span box t o' Y b.y c.pair_by_span-2.result plane' (above_in_steps n unit_box Y may) (a.y may)
          (c.pair_by_span-2.ensures.left ∙ ap (λ (s : Aabb). int_le s.y.low b.y.at) e)
          (c.pair_by_span-2.ensures.right ∙ ap (λ (s : Aabb). int_le b.y.at s.y.high) e);
      z = λ may. pair_by_span box t o' Z b.z c.pair_by_span-3.result plane' (above_in_steps n unit_box Z may) (a.z may)
          (c.pair_by_span-3.ensures.left ∙ ap (λ (s : Aabb). int_le s.z.low b.z.at) e)
          (c.pair_by_span-3.ensures.right ∙ ap (λ (s : Aabb). int_le b.z.at s.z.high) e);
    }
