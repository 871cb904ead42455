use Rattle.std.proofs.Common.{inr, sym, ◌∙◌}
use Rattle.ember_poly.proofs.Classification.{some_raised, level_next}
use Rattle.ember_poly.proofs.passage.is_some_above.Goals as goal

pub returns-then-is_above-clause-some : goal.returns-then-is_above-clause-some
returns-then-is_above-clause-some g c =
    let m = c.index-corners-i in
    λ e. inr (some_raised g.W.Width.spot c.args.p.now c.args.corners.now c.loop-i.i m.result c.loop-i-test.true m.is
    (sym c.is_above.ensures ∙ c.if-is_above.true))

pub loop-i-preserved : goal.loop-i-preserved
loop-i-preserved g c =
    let m = c.index-corners-i in
    level_next g.W.Width.spot c.args.p.now c.args.corners.now c.loop-i.i m.result c.loop-i-test.true m.is
    (sym c.is_above.ensures ∙ c.if-is_above.false) c.loop-i.invariant
