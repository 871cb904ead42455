use Rattle.ember_reread.specs.Cornered.{HasCorneredEdges}
use Rattle.ember_reread.proofs.cornered.take_cornered_edges.Given as goal

abbrev pub invariant-loop-edge : goal.invariant-loop-edge
invariant-loop-edge l = HasCorneredEdges l._edge l.edges.items l.bytes l.rest
