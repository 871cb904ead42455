use Rattle.std.proofs.Common.{inr}
use Rattle.ember_reread.proofs.FaceTexts.{no_more_edges}
use Rattle.ember_reread.proofs.CorneredTexts.{no_cornered_edges, push_cornered_edge, cornered_are_edges}
use Rattle.ember_reread.proofs.cornered.take_cornered_edges.Goals as goal

pub loop-edge-init : goal.loop-edge-init
loop-edge-init c = no_cornered_edges c.args.bytes.now c.new-edges.ensures.items

pub returns-in_default-clause-form : goal.returns-in_default-clause-form
returns-in_default-clause-form c =
    inr (no_more_edges (cornered_are_edges c.loop-edge.invariant) c.loop-edge-test.true c.in_default.ensures)

pub loop-edge-preserved : goal.loop-edge-preserved
loop-edge-preserved c = push_cornered_edge c.in-Some.edge c.loop-edge.invariant c.in-Some.ensures c.in_ok-push.ensures.items
