use Rattle.std.proofs.Common.{◌≡◌, sym, ap, ◌∙◌, true}
use Rattle.ember_model.specs.Limits.{broad_limit}
use Rattle.ember_model.specs.Planes.{support_of}
use Rattle.ember_box.specs.Aabbs.{aabb_of_tri, aabbs_meet, has_zero_extent, contains_corner, crosses}
use Rattle.ember_box.proofs.NearByAabbs.{crossed_a, inside_out}
use Rattle.ember_box.proofs.FlatAlongAxis.{zero_extent_crossed}
use Rattle.ember_box.proofs.nearness.is_crossed.Goals.{then-has_zero_extent-via-then-has_zero_extent, then-has_zero_extent-via-else-has_zero_extent+then-contains_corner}
use Rattle.ember_box.proofs.nearness.is_crossed.Goals as goal

pub returns-then-has_zero_extent : goal.returns-then-has_zero_extent
returns-then-has_zero_extent c =
    let t = c.args.t.now in let b = c.args.aabb.now in
    elim c.then-has_zero_extent.branch [
      | then-has_zero_extent-via-then-has_zero_extent w ↦ (let l : has_zero_extent (aabb_of_tri t) ≡ true =
          ap has_zero_extent (sym c.requires.spans) ∙ sym c.has_zero_extent.ensures ∙ w.if-has_zero_extent.true in
          λ box e o. sym (ap (λ b. crosses (support_of t) b) e
          ∙ zero_extent_crossed box t l (ap (λ b. aabbs_meet (aabb_of_tri t) b) (sym e) ∙ o)))
      | then-has_zero_extent-via-else-has_zero_extent+then-contains_corner w ↦ (let h : contains_corner b t.a ≡ true =
          sym w.contains_corner.ensures ∙ w.if-contains_corner.true in
          λ box e o. sym (crossed_a t b (inside_out b t.a h)))
    ]

pub crosses-requires-clause-plane : goal.crosses-requires-clause-plane
crosses-requires-clause-plane c = c.support_of.ensures.within broad_limit c.requires.tri
