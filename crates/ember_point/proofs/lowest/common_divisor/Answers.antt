use Rattle.std.proofs.Common.{◌∙◌, ap, subst, sym, to_z-of_z, unsigned_abs}
use mir.Syntax.{w128}
use Rattle.ember_algebra.proofs.Exact.{kept, ◌&◌, done, exact}
use Rattle.ember_algebra.proofs.Size.{fits_small}
use Rattle.ember_point.specs.Points.{spot_of, IsGreatestDivisor}
use Rattle.ember_point.proofs.Quotients.{divisor_small, greatest_divisor}
use Rattle.ember_point.proofs.lowest.common_divisor.Goals as goal

pub overflow_cast-result : goal.overflow_cast-result
overflow_cast-result c =
    let u = spot_of c.args.m.now in let v = c.args.m.now.valid in
    fits_small w128 (divisor_small u v _ _ _ _ _ _ _
    (c.unsigned_abs.ensures.value ∙ ap unsigned_abs (exact (v.w & done) (kept 0) tt))
    (c.unsigned_abs-2.ensures.value ∙ ap unsigned_abs (exact (v.x & done) (kept 0) tt))
    (c.unsigned_abs-3.ensures.value ∙ ap unsigned_abs (exact (v.y & done) (kept 0) tt))
    (c.unsigned_abs-4.ensures.value ∙ ap unsigned_abs (exact (v.z & done) (kept 0) tt)) c.long_gcd-first.ensures
    c.long_gcd-second.ensures c.long_gcd-third.ensures) tt

pub returns : goal.returns
returns c =
    let u = spot_of c.args.m.now in let v = c.args.m.now.valid in
    let g = greatest_divisor u v _ _ _ _ _ _ _ (c.unsigned_abs.ensures.value
    ∙ ap unsigned_abs (exact (v.w & done) (kept 0) tt))
    (c.unsigned_abs-2.ensures.value ∙ ap unsigned_abs (exact (v.x & done) (kept 0) tt))
    (c.unsigned_abs-3.ensures.value ∙ ap unsigned_abs (exact (v.y & done) (kept 0) tt))
    (c.unsigned_abs-4.ensures.value ∙ ap unsigned_abs (exact (v.z & done) (kept 0) tt)) c.long_gcd-first.ensures
    c.long_gcd-second.ensures c.long_gcd-third.ensures in
    subst (λ d. IsGreatestDivisor u d) (sym (to_z-of_z (fits_small w128 g.small tt))) g
