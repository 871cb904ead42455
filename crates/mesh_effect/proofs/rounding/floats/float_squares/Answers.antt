use Rattle.std.proofs.Common.{◌≤◌, ◌<◌, length, get_or, refl, sym, subst, arith}
use Rattle.mesh_write.specs.declared.stl.triangle.FloatPoint.{FloatPoint}
use Rattle.mesh_point.specs.declared.space_point.SpacePoint.{SpacePoint}
use Rattle.mesh_written.specs.Floats.{IsFloatPoint}
use Rattle.mesh_effect.specs.Rounding.Ticks.{power_tick}
use Rattle.mesh_effect.specs.Rounding.Floats.{point_place, top_place}
use Rattle.mesh_effect.proofs.FloatTables.{squares_more, squares_all}
use Rattle.mesh_effect.proofs.Maxima.{greatest_least}
use Rattle.mesh_effect.proofs.rounding.floats.float_squares.Goals as goal

pub bounds-points-k : goal.bounds-points-k
bounds-points-k c = omega (arith, c.requires.points.count, c.loop-k-test.true)

pub float_square-requires-clause-point : goal.float_square-requires-clause-point
float_square-requires-clause-point c =
    let d : FloatPoint = record { x = 0; y = 0; z = 0 } in
    let at = c.requires.points.each c.loop-k.k c.index-corners-k.result d c.loop-k-test.true in
    subst (λ (x : SpacePoint). IsFloatPoint c.args.step.now c.args.offset.now x (get_or c.args.points.now c.loop-k.k d)) (sym c.index-corners-k.is) at

pub float_square-requires-clause-place : goal.float_square-requires-clause-place
float_square-requires-clause-place c =
    let d : FloatPoint = record { x = 0; y = 0; z = 0 } in
    let less : c.loop-k.k < length c.args.points.now = omega (arith, c.requires.points.count, c.loop-k-test.true) in
    let least = greatest_least point_place c.args.points.now c.loop-k.k d less in
    let here : point_place (get_or c.args.points.now c.loop-k.k d) ≤ top_place c.args.points.now = omega (arith, least) in
    omega (arith, here, c.requires.place)

pub returns-in_default-clause-fault : goal.returns-in_default-clause-fault
returns-in_default-clause-fault c =
    (c.loop-k.k, c.index-corners-k.result, c.loop-k-test.true, sym c.index-corners-k.is, c.in_default.ensures)

pub loop-k-preserved : goal.loop-k-preserved
loop-k-preserved c =
    let d : FloatPoint = record { x = 0; y = 0; z = 0 } in
    let less : c.loop-k.k < length c.args.points.now = omega (arith, c.requires.points.count, c.loop-k-test.true) in
    squares_more (power_tick c.args.top) c.args.step.now c.args.offset.now c.args.corners.now c.args.points.now
    c.loop-k.k c.index-corners-k.result (get_or c.args.points.now c.loop-k.k d) d c.loop-k.squares.items
    c.push.new.self.items c.in-Some.square c.loop-k-test.true less c.index-corners-k.is refl c.loop-k.invariant
    c.in-Some.ensures c.in_ok-push.ensures.items

pub returns-clause-squares : goal.returns-clause-squares
returns-clause-squares c =
    squares_all (power_tick c.args.top) c.args.step.now c.args.offset.now c.args.corners.now c.args.points.now
    c.loop-k.k c.loop-k.squares.items c.requires.points.count c.loop-k-test.false c.loop-k.invariant
