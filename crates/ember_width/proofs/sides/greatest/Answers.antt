use Rattle.std.proofs.Common.{ℤ, pos, ◌*ℤ◌, ◌<ℤ◌, ◌≤ℤ◌, sym, subst, arith}
use Rattle.std.proofs.lemmas.Int.{ints}
use Rattle.ember_algebra.proofs.Exact.{narrow, ◌&◌, done, exact, bounded}
use Rattle.ember_width.specs.Broad.{most_normal}
use Rattle.ember_width.proofs.CubeValues.{rising, not_rising}
use Rattle.ember_width.proofs.sides.greatest.Goals as goal

pub returns-then-a-gt0-clause-bound : goal.returns-then-a-gt0-clause-bound
returns-then-a-gt0-clause-bound c r w h l =
    let e = exact (c.requires & done) (narrow 0) tt in let n : pos 0 <ℤ c.args.a = omega (arith, e, c.if-a-gt0.true, ints) in
    subst (λ (z : ℤ). (c.args.a *ℤ r) ≤ℤ (z *ℤ w)) (sym e) (rising c.args.a r w n l)

pub returns-then-a-gt0-clause-small : goal.returns-then-a-gt0-clause-small
returns-then-a-gt0-clause-small c = bounded (c.requires & done) most_normal (narrow 0) tt

pub returns-else-a-gt0-clause-bound : goal.returns-else-a-gt0-clause-bound
returns-else-a-gt0-clause-bound c r w h l =
    let e = exact (c.requires & done) (narrow 0) tt in let n : c.args.a ≤ℤ pos 0 = omega (arith, e, c.if-a-gt0.false, ints) in
    not_rising c.args.a r w n h
