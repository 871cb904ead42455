use Rattle.std.proofs.Common.{SFits, to_z-of_z, unsigned_abs, refl, ap, ◌∙◌, rules}
use mir.Syntax.{w32}
use Rattle.ember_algebra.proofs.Exact.{kept, ◌&◌, done, exact}
use Rattle.ember_width.proofs.CubeValues.{remainder_small}
use Rattle.mesh_point.proofs.LocalTurns.{local_is}
use Rattle.mesh_point.proofs.localizing.local_point.Goals as goal

pub returns : goal.returns
returns c =
    let p = c.args.p.now in let v = p.valid in
    let fx : SFits w32 p.floor_x = search rules in let fy : SFits w32 p.floor_y = search rules in
    let x = exact (remainder_small v.x v.w & done) (kept 0) tt in let y = exact (remainder_small v.y v.w & done) (kept 0) tt in
    let w = exact (v.w & done) (kept 0) tt in
    local_is p.floor_x p.floor_y p.x p.y p.w c.args.i c.args.j c.abs_diff.result c.abs_diff-2.result c.unsigned_abs.result
    c.unsigned_abs-2.result c.unsigned_abs-3.result c.requires.below_x c.requires.below_y v.x.at_least v.y.at_least v.positive
    (c.abs_diff.ensures ∙ rw (to_z-of_z fx, to_z-of_z c.ranges.i) refl) (c.abs_diff-2.ensures ∙ rw (to_z-of_z fy, to_z-of_z c.ranges.j) refl)
    (c.unsigned_abs.ensures.value ∙ ap unsigned_abs x) (c.unsigned_abs-2.ensures.value ∙ ap unsigned_abs y)
    (c.unsigned_abs-3.ensures.value ∙ ap unsigned_abs w)
