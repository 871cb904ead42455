use Rattle.std.proofs.Common.{◌≡◌, sym, ap, ◌∙◌, true, false, ◌&&◌}
use Rattle.ember_model.specs.Planes.{support_of}
use Rattle.ember_box.specs.Aabbs.{aabb_of_cell, aabb_of_tri, aabbs_meet, crosses}
use Rattle.ember_box.proofs.NearByAabbs.{near_is}
use Rattle.ember_box.proofs.nearness.is_near.Goals as goal

pub returns-then-aabbs_meet : goal.returns-then-aabbs_meet
returns-then-aabbs_meet c =
    let t = c.args.t.now in let b = c.args.aabb.now in
    let o : aabbs_meet (aabb_of_tri t) b ≡ true =
    ap (λ s. aabbs_meet s b) (sym c.aabb_of_tri-spans.ensures) ∙ sym c.aabbs_meet.ensures ∙ c.if-aabbs_meet.true in
    λ box e. (c.is_crossed.ensures box e o ∙ ap (λ b. crosses (support_of t) b) e
    ∙ sym (near_is box t ∙ ap (λ r. r && crosses (support_of t) (aabb_of_cell box))
    (ap (λ b. aabbs_meet (aabb_of_tri t) b) (sym e) ∙ o)))

pub returns-else-aabbs_meet : goal.returns-else-aabbs_meet
returns-else-aabbs_meet c =
    let t = c.args.t.now in let b = c.args.aabb.now in
    let o : aabbs_meet (aabb_of_tri t) b ≡ false =
    ap (λ s. aabbs_meet s b) (sym c.aabb_of_tri-spans.ensures) ∙ sym c.aabbs_meet.ensures ∙ c.if-aabbs_meet.false in
    λ box e. (c.if-aabbs_meet.false ∙ sym (near_is box t
    ∙ ap (λ r. r && crosses (support_of t) (aabb_of_cell box)) (ap (λ b. aabbs_meet (aabb_of_tri t) b) (sym e) ∙ o)))
