use Rattle.ember_balance.proofs.Edges.{two_way_more}
use Rattle.ember_balance.proofs.loose.two_way_numbers.Goals as goal

pub loop-t-preserved : goal.loop-t-preserved
loop-t-preserved c =
    two_way_more c.args.tris.now c.loop-t.t-index _ _ _ c.loop-t-test.true c.loop-t.invariant c.in_ok-push_two_way.ensures
