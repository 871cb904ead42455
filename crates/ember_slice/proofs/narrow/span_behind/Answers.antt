use Rattle.std.proofs.Common.{◌≡◌, subst, to_z-of_z, true, false}
use Rattle.ember_model.specs.declared.point.Spot.{Spot}
use Rattle.ember_slice.specs.Lines.{is_on_line}
use Rattle.ember_slice.specs.Intervals.{IsInterval, is_behind}
use Rattle.ember_slice.proofs.Narrowing.{less_left, nothing_left, span_left, next_plane, last_plane}
use Rattle.ember_slice.proofs.narrow.span_behind.Goals as goal

pub returns-in_err-interval : goal.returns-in_err-interval
returns-in_err-interval c =
    let n = c.args.support.now in let ps = c.args.planes.now in
    rw c.from_residual.ensures (subst (λ at. (v : Spot) → is_on_line n at v ≡ true →
    is_behind ps v ≡ false) (to_z-of_z c.ranges.at)
    (nothing_left (next_plane ps c.loop-p.p-index c.loop-p-test.true c.loop-p.invariant) c.in_err-interval.ensures))

pub loop-p-preserved : goal.loop-p-preserved
loop-p-preserved c =
    less_left (next_plane c.args.planes.now c.loop-p.p-index c.loop-p-test.true c.loop-p.invariant) c.in_ok-interval.ensures

pub returns : goal.returns
returns c =
    let n = c.args.support.now in let ps = c.args.planes.now in
    subst (λ at. IsInterval n at ps c.loop-p.interval) (to_z-of_z c.ranges.at)
    (span_left (last_plane ps c.loop-p.p-index c.loop-p-test.false c.loop-p.invariant))
