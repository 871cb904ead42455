use Rattle.std.proofs.Common.{subst, sym, ◌+◌}
use Rattle.ember_poly.proofs.OldestPlane.{LeastOf, least_keep, least_new, least_first}
use Rattle.ember_poly.proofs.boundary.least.Goals.{then-numbers-i, else-numbers-i}
use Rattle.ember_poly.proofs.boundary.least.Goals as goal

pub loop-i-preserved : goal.loop-i-preserved
loop-i-preserved c =
    let ns = c.args.numbers.now in let i = c.loop-i.i in
    elim c.if-numbers-i.branch [
      | then-numbers-i w ↦ subst (λ k. LeastOf ns (i + 1) k) (sym w.best-is)
          (least_new ns i c.loop-i.best _ c.loop-i-test.true c.loop-i.invariant w.if-numbers-i.true)
      | else-numbers-i w ↦ subst (λ k. LeastOf ns (i + 1) k) (sym w.best-is)
          (least_keep ns i c.loop-i.best _ c.loop-i-test.true c.loop-i.invariant w.if-numbers-i.false)
    ]

pub returns-clause-least : goal.returns-clause-least
returns-clause-least c =
    least_first c.args.numbers.now c.loop-i.i c.loop-i.best c.loop-i-test.false c.loop-i.invariant
