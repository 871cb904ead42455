use Rattle.std.proofs.Common.{◌≡◌, ◌+◌, ◌∷◌, List, length, drop, map, sym, subst, ap, ◌∙◌}
use Rattle.std.specs.Prelude.{Option}
use Rattle.ember_algebra.specs.declared.Sign.{Sign}
use Rattle.mesh_written.specs.Triangles.{has_corners}
use Rattle.mesh_effect.specs.Facing.Facings.{float_facing}
use Rattle.mesh_effect.proofs.Counted.{HaveCounted, counted_more, rest_begins, all_pass_at}
use Rattle.mesh_effect.proofs.facing.counts.float_facings.Goals as goal

pub float_facing-requires-clause-corners : goal.float_facing-requires-clause-corners
float_facing-requires-clause-corners c =
    all_pass_at (has_corners (length c.args.points.now)) c.args.triangles.now c.loop-t.t-index c.t-item.result c.requires.corners c.loop-t-test.true c.t-item.is

pub loop-t-preserved : goal.loop-t-preserved
loop-t-preserved c =
    let ts = c.args.triangles.now in let i = c.loop-t.t-index in let t = c.t-item.result in
    let f = float_facing c.args.planes.now c.args.points.now in
    let s = c.float_facing.result in
    let rest = map f (drop (i + 1) ts) in
    let here = c.float_facing.ensures ∙ ap f c.t-item.is in
    let begins : map f (drop i ts) ≡ s ∷ rest = ap (map f) (rest_begins ts i t c.loop-t-test.true) ∙ ap (λ (x : Option Sign). x ∷ rest) (sym here) in
    let before = subst (λ (r : List (Option Sign)). HaveCounted r (map f ts) i c.loop-t.counts) begins c.loop-t.invariant in
    counted_more s rest (map f ts) i c.loop-t.counts c.counted-counts.result before c.counted-counts.ensures.without_area c.counted-counts.ensures.turned_over
