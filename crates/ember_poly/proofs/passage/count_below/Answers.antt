use Rattle.ember_model.specs.Planes.{value_at}
use Rattle.ember_poly.proofs.CornerSigns.{neg_out, zero_out, pos_out, zero_least, above_least}
use Rattle.ember_poly.proofs.Classification.{run_next, run_stops, run_ends, next_zero, next_over, next_none}
use Rattle.ember_poly.proofs.passage.count_below.Goals as goal

pub loop-i-preserved : goal.loop-i-preserved
loop-i-preserved g c =
    let p = c.args.p.now in let m = c.index-corners-i in
    run_next g.W.Width.spot p c.args.corners.now c.loop-i.i m.result c.loop-i-test.true m.is
    (neg_out (value_at p (g.W.Width.spot m.result)) c.side_with_axis.ensures c.in-Neg.is) c.loop-i.invariant

pub returns-in-Zero-clause-run : goal.returns-in-Zero-clause-run
returns-in-Zero-clause-run g c =
    let p = c.args.p.now in let m = c.index-corners-i in
    run_stops g.W.Width.spot p c.args.corners.now c.loop-i.i m.result c.loop-i-test.true m.is
    (zero_least (zero_out (value_at p (g.W.Width.spot m.result)) c.side_with_axis.ensures c.in-Zero.is)) c.loop-i.invariant

pub returns-in-Zero-clause-next : goal.returns-in-Zero-clause-next
returns-in-Zero-clause-next g c =
    let p = c.args.p.now in let m = c.index-corners-i in
    next_zero g.W.Width.spot p c.args.corners.now c.loop-i.i m.result c.loop-i-test.true m.is
    (zero_out (value_at p (g.W.Width.spot m.result)) c.side_with_axis.ensures c.in-Zero.is)

pub returns-in-Pos-clause-run : goal.returns-in-Pos-clause-run
returns-in-Pos-clause-run g c =
    let p = c.args.p.now in let m = c.index-corners-i in
    run_stops g.W.Width.spot p c.args.corners.now c.loop-i.i m.result c.loop-i-test.true m.is
    (above_least (pos_out (value_at p (g.W.Width.spot m.result)) c.side_with_axis.ensures c.in-Pos.is)) c.loop-i.invariant

pub returns-in-Pos-clause-next : goal.returns-in-Pos-clause-next
returns-in-Pos-clause-next g c =
    let p = c.args.p.now in let m = c.index-corners-i in
    next_over g.W.Width.spot p c.args.corners.now c.loop-i.i m.result c.loop-i-test.true m.is
    (pos_out (value_at p (g.W.Width.spot m.result)) c.side_with_axis.ensures c.in-Pos.is)

pub returns-clause-run : goal.returns-clause-run
returns-clause-run g c =
    run_ends g.W.Width.spot c.args.p.now c.args.corners.now c.loop-i.i c.loop-i-test.false c.loop-i.invariant

pub returns-clause-next : goal.returns-clause-next
returns-clause-next g c = next_none g.W.Width.spot c.args.p.now c.args.corners.now
