use Rattle.std.proofs.Common.{◌≡◌, sym, ◌∙◌, subst, false}
use Rattle.ember_box.specs.declared.near_parts.NearParts.{NearParts}
use Rattle.ember_box.specs.Boxes.{in_steps}
use Rattle.ember_box.specs.Aabbs.{aabb_of_cell, aabb_of_tri, aabbs_meet}
use Rattle.ember_box.specs.NearParts.{AreNearParts}
use Rattle.ember_box.proofs.HalfNearness.{far_whole}
use Rattle.ember_box.proofs.OneLook.{none_near}
use Rattle.ember_box.proofs.near_parts.near_parts.Goals as goal

pub returns-then-not-aabbs_meet : goal.returns-then-not-aabbs_meet
returns-then-not-aabbs_meet c = λ n box a.
    let t = c.args.t.now in
    let o : aabbs_meet (aabb_of_tri t) (aabb_of_cell (in_steps n box)) ≡ false =
    (λ i. aabbs_meet (sym c.aabb_of_tri-spans.ensures i) (sym a.whole i)) ∙ sym c.aabbs_meet.ensures
    ∙ c.if-not-aabbs_meet.true in
    subst (λ (p : NearParts). AreNearParts n box t p) (sym c.no_parts.ensures) (none_near n box t (far_whole (in_steps n box) t o))

pub returns-in-None : goal.returns-in-None
returns-in-None c = λ n box a.
    c.parts_by_spans.ensures n box c.args.t.now a c.aabb_of_tri-spans.ensures (sym c.aabbs_meet.ensures ∙ c.if-not-aabbs_meet.false) c.in-None.ensures.value

pub returns-in-Some : goal.returns-in-Some
returns-in-Some c = λ n box a.
    c.parts_by_plane.ensures n box c.args.t.now a c.aabb_of_tri-spans.ensures (sym c.aabbs_meet.ensures ∙ c.if-not-aabbs_meet.false) c.in-Some.ensures.value
