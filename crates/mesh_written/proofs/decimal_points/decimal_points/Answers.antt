use Rattle.std.proofs.Common.{sym}
use Rattle.mesh_written.specs.Decimals.{decimal_point}
use Rattle.mesh_written.proofs.Kept.{points_more}
use Rattle.mesh_written.proofs.decimal_points.decimal_points.Goals as goal

pub returns-in_default-clause-fault : goal.returns-in_default-clause-fault
returns-in_default-clause-fault c =
    (c.loop-corner.corner-index, c.corner-item.result, c.loop-corner-test.true, sym c.corner-item.is, c.in_default.ensures)

pub loop-corner-preserved : goal.loop-corner-preserved
loop-corner-preserved c =
    points_more (decimal_point c.args.places c.args.step.now c.args.offset.now) c.args.corners.now
    c.loop-corner.corner-index c.corner-item.result c.loop-corner.points.items c.push.new.self.items c.in-Some.point
    c.loop-corner-test.true c.corner-item.is c.in-Some.ensures c.loop-corner.invariant c.in_ok-push.ensures.items
