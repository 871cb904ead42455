use Rattle.ember_voxel.proofs.Rows.{fills_more}
use Rattle.ember_voxel.proofs.grid.set_fills.Goals as goal

pub loop-fill-preserved : goal.loop-fill-preserved
loop-fill-preserved c =
    fills_more c.args.size c.args.n c.loop-fill.fill-index c.args.fills.now c.fill-item.result c.args.rows.now
    c.loop-fill.rows c.set_fill.new.rows c.loop-fill-test.true c.fill-item.is c.loop-fill.invariant
    c.set_fill.ensures.cells c.set_fill.ensures.feeds
