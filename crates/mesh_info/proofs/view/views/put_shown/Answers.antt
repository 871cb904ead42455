use Rattle.mesh_info.proofs.Rounded.{one_more}
use Rattle.mesh_info.proofs.view.views.put_shown.Goals as goal

pub loop-t-preserved : goal.loop-t-preserved
loop-t-preserved c =
    λ others before. one_more others c.args.triangles.now c.loop-t.t-index _ c.loop-t.written.items
    c.push.new.self.items c.shown.result c.loop-t-test.true c.shown.ensures c.in_ok-push.ensures.items
    (c.loop-t.invariant others before)
