use Rattle.std.proofs.Common.{◌<◌, ◌^◌, arith}
use Rattle.mesh_grid.proofs.DecimalSteps.{reduced_least, reduced_is_step}
use Rattle.mesh_grid.proofs.snap.decimals.step_of_trillionths.Goals as goal

pub returns-then-number-ge-LIMIT-clause-none : goal.returns-then-number-ge-LIMIT-clause-none
returns-then-number-ge-LIMIT-clause-none c = λ step is.
    let r = c.reduced-number in
    let least = reduced_least r.result.0 c.args.trillionths r.result.1 step r.ensures.few r.ensures.same r.ensures.reduced is in
    absurd (omega (arith, least, is.step.step.numerator_small, c.if-number-ge-LIMIT.true))

pub returns-clause-some : goal.returns-clause-some
returns-clause-some c =
    let r = c.reduced-number in
    let small : r.result.0 < 2 ^ 40 = omega (arith, c.if-number-ge-LIMIT.false) in
    rw c.pow.ensures (reduced_is_step r.result.0 c.args.trillionths r.result.1 c.requires r.ensures.few r.ensures.same small)

pub returns-clause-least : goal.returns-clause-least
returns-clause-least c = λ other is.
    let r = c.reduced-number in
    reduced_least r.result.0 c.args.trillionths r.result.1 other r.ensures.few r.ensures.same r.ensures.reduced is
