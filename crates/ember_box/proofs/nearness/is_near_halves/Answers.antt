use Rattle.std.proofs.Common.{◌≡◌, sym, ap, ◌∙◌, subst, true, false}
use Rattle.ember_box.specs.Aabbs.{interval_along, aabb_of_cell, aabb_of_tri, aabbs_meet}
use Rattle.ember_box.specs.Sums.{IsPlaneOf, meets_left, meets_right}
use Rattle.ember_box.proofs.HalfNearness.{seen_low, seen_high, far_low, far_high}
use Rattle.ember_box.proofs.nearness.is_near_halves.Goals as goal

pub returns-then-aabbs_meet : goal.returns-then-aabbs_meet
returns-then-aabbs_meet c = λ box above e are.
    let t = c.args.t.now in let h = c.args.halves.now in let k = c.args.k in let p = c.plane_to_test-plane.result in
    let o : aabbs_meet (aabb_of_tri t) (aabb_of_cell box) ≡ true =
    (λ i. aabbs_meet (sym c.aabb_of_tri-spans.ensures i) (sym e i)) ∙ sym c.aabbs_meet.ensures
    ∙ c.if-aabbs_meet.true in
    let plane : IsPlaneOf (aabb_of_cell box) t p = subst (λ w. IsPlaneOf w t p) e c.plane_to_test-plane.ensures.value in
    let span = c.interval_along-span.ensures ∙ ap (λ b. interval_along b k) c.aabb_of_tri-spans.ensures in (
      c.meets_left.ensures ∙ ap (λ a. meets_left h a p) span ∙ seen_low box t p o plane k h above are,
      c.meets_right.ensures ∙ ap (λ a. meets_right h a p) span ∙ seen_high box t p o plane k h above are,
    )

pub returns-else-aabbs_meet : goal.returns-else-aabbs_meet
returns-else-aabbs_meet c = λ box above e are.
    let t = c.args.t.now in let k = c.args.k in
    let o : aabbs_meet (aabb_of_tri t) (aabb_of_cell box) ≡ false =
    (λ i. aabbs_meet (sym c.aabb_of_tri-spans.ensures i) (sym e i)) ∙ sym c.aabbs_meet.ensures
    ∙ c.if-aabbs_meet.false in
    (sym (far_low box t o k above), sym (far_high box t o k above))
