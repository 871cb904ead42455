use Rattle.ember_balance.proofs.Edges.{there_more, back_more}
use Rattle.ember_balance.proofs.loose.numbers_of.Goals as goal

pub loop-t-preserved : goal.loop-t-preserved
loop-t-preserved c = (
  there_more c.args.tris.now c.loop-t.t-index _ _ _ c.loop-t-test.true c.loop-t.invariant.0
      c.in_ok-push_edges.ensures.there,
  back_more c.args.tris.now c.loop-t.t-index _ _ _ c.loop-t-test.true
      c.loop-t.invariant.1 c.in_ok-push_edges.ensures.back,
)
