use Rattle.std.proofs.Common.{ℤ, pos, ◌*ℤ◌, ◌<ℤ◌, ◌≤ℤ◌, sym, subst, arith}
use Rattle.std.proofs.lemmas.Int.{ints}
use Rattle.ember_algebra.proofs.Exact.{narrow, ◌&◌, done, exact, bounded}
use Rattle.ember_width.specs.Broad.{most_normal}
use Rattle.ember_width.proofs.CubeValues.{falling, not_falling}
use Rattle.ember_width.proofs.sides.least.Goals as goal

pub returns-then-a-lt0-clause-bound : goal.returns-then-a-lt0-clause-bound
returns-then-a-lt0-clause-bound c r w h l =
    let e = exact (c.requires & done) (narrow 0) tt in let n : c.args.a <ℤ pos 0 = omega (arith, e, c.if-a-lt0.true, ints) in
    subst (λ (z : ℤ). (z *ℤ w) ≤ℤ (c.args.a *ℤ r)) (sym e) (falling c.args.a r w n l)

pub returns-then-a-lt0-clause-small : goal.returns-then-a-lt0-clause-small
returns-then-a-lt0-clause-small c = bounded (c.requires & done) most_normal (narrow 0) tt

pub returns-else-a-lt0-clause-bound : goal.returns-else-a-lt0-clause-bound
returns-else-a-lt0-clause-bound c r w h l =
    let e = exact (c.requires & done) (narrow 0) tt in let n : pos 0 ≤ℤ c.args.a = omega (arith, e, c.if-a-lt0.false, ints) in
    not_falling c.args.a r w n h
