use Rattle.std.proofs.Common.{sym, subst, take, ◌+◌}
use Rattle.ember_model.specs.Planes.{value_at}
use Rattle.ember_poly.specs.Passages.{AreNotBelow}
use Rattle.ember_poly.proofs.CornerSigns.{neg_out, zero_out, pos_out}
use Rattle.ember_poly.proofs.Classification.{risen_zero, risen_over, risen_next, rise_stops, rise_ends}
use Rattle.ember_poly.proofs.passage.count_not_below.Goals.{in-Zero, in-Pos}
use Rattle.ember_poly.proofs.passage.count_not_below.Goals as goal

pub loop-i-preserved : goal.loop-i-preserved
loop-i-preserved g c =
    let p = c.args.p.now in let ms = c.args.corners.now in let i = c.loop-i.i in let m = c.index-corners-i in
    elim c.match-side_with_axis.branch [
      | in-Zero w ↦ subst (λ h. AreNotBelow g.W.Width.spot p h (take (i + 1) ms)) (sym w.high-is)
          (risen_next g.W.Width.spot p c.loop-i.high ms i m.result c.loop-i-test.true m.is
          (risen_zero g.W.Width.spot p c.loop-i.high (take i ms) m.result
          (zero_out (value_at p (g.W.Width.spot m.result)) c.side_with_axis.ensures w.in-Zero.is) c.loop-i.invariant))
      | in-Pos w ↦ subst (λ h. AreNotBelow g.W.Width.spot p h (take (i + 1) ms)) (sym w.high-is)
          (risen_next g.W.Width.spot p _ ms i m.result c.loop-i-test.true m.is
          (risen_over g.W.Width.spot p c.loop-i.high (take i ms) m.result
          (pos_out (value_at p (g.W.Width.spot m.result)) c.side_with_axis.ensures w.in-Pos.is) c.loop-i.invariant))
    ]

pub returns-in-Neg : goal.returns-in-Neg
returns-in-Neg g c =
    let p = c.args.p.now in let m = c.index-corners-i in
    rise_stops g.W.Width.spot p c.loop-i.high c.args.corners.now c.loop-i.i m.result c.loop-i-test.true m.is
    (neg_out (value_at p (g.W.Width.spot m.result)) c.side_with_axis.ensures c.in-Neg.is) c.loop-i.invariant

pub returns : goal.returns
returns g c =
    rise_ends g.W.Width.spot c.args.p.now c.loop-i.high c.args.corners.now c.loop-i.i c.loop-i-test.false c.loop-i.invariant
