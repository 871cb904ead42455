use Rattle.std.proofs.Common.{length, sym, ap, arith}
use Rattle.std.proofs.lemmas.List.{length_push}
use Rattle.mesh_written.specs.Floats.{IsFloatPoint}
use Rattle.mesh_written.proofs.Points.{each_more}
use Rattle.mesh_written.proofs.floats.float_points.Goals as goal

pub returns-in_default-clause-fault : goal.returns-in_default-clause-fault
returns-in_default-clause-fault c =
    (c.loop-corner.corner-index, c.corner-item.result, c.loop-corner-test.true, sym c.corner-item.is, c.in_default.ensures)

pub loop-corner-preserved : goal.loop-corner-preserved
loop-corner-preserved c =
    let ps = c.loop-corner.points.items in
    let p = c.in-Some.point in
    record {
      count = omega (arith, ap length c.in_ok-push.ensures.items, length_push ps p, c.loop-corner.invariant.count);
      each = rw c.in_ok-push.ensures.items (each_more (IsFloatPoint c.args.step.now c.args.offset.now)
          c.args.corners.now ps c.loop-corner.corner-index c.corner-item.result p c.loop-corner.invariant.count
          c.loop-corner-test.true c.corner-item.is c.in-Some.ensures c.loop-corner.invariant.each);
    }
