use Rattle.std.proofs.Common.{refl, subst, ap, ◌∙◌}
use Rattle.ember_box.specs.Aabbs.{interval_along}
use Rattle.ember_leaf.specs.Walls.{wall_of, IsLowRemainder, IsHighRemainder}
use Rattle.ember_leaf.proofs.WallClips.{low_stay, high_stay}
use Rattle.ember_leaf.proofs.clip.remainder_at.Goals as goal

pub returns-then-wall : goal.returns-then-wall
returns-then-wall g c =
    let w = c.args.wall.now in
    high_stay (wall_of w) w.axis w.at c.args.triangle.now.tri w.is_high c.remainder_at_high.result c.if-wall.true refl
    (subst (λ s. IsHighRemainder s w.at c.remainder_at_high.result)
    (c.interval_along-interval.ensures ∙ ap (λ b. interval_along b w.axis) c.args.triangle.now.bounds)
    c.remainder_at_high.ensures)

pub returns-else-wall : goal.returns-else-wall
returns-else-wall g c =
    let w = c.args.wall.now in
    low_stay (wall_of w) w.axis w.at c.args.triangle.now.tri w.is_high c.remainder_at_low.result c.if-wall.false refl
    (subst (λ s. IsLowRemainder s w.at c.remainder_at_low.result)
    (c.interval_along-interval.ensures ∙ ap (λ b. interval_along b w.axis) c.args.triangle.now.bounds)
    c.remainder_at_low.ensures)
