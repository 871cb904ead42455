use Rattle.std.proofs.Common.{◌≡◌, ◌<◌, ◌%◌, arith}
use Rattle.mesh_grid.proofs.DecimalSteps.{place_left, place_dropped}
use Rattle.mesh_grid.proofs.snap.decimals.reduced.Goals as goal

pub loop-places-preserved : goal.loop-places-preserved
loop-places-preserved c =
    let number = c.loop-places.number in
    let places = c.loop-places.places in
    let left : 0 < places = omega (arith, c.loop-places-test.true) in
    let zero : number % 10 ≡ 0 = omega (arith, c.if-number-eq0.true) in
    let old = c.loop-places.invariant in
    record {
      positive = place_left number old.positive zero;
      few = omega (arith, old.few);
      same = place_dropped number places c.args.trillionths left old.few zero old.same;
    }
