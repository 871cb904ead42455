use Rattle.ember_reread.specs.Lines.{HasEdges}
use Rattle.ember_reread.proofs.edges.take_edges.Given as goal

abbrev pub invariant-loop-edge : goal.invariant-loop-edge
invariant-loop-edge l = HasEdges l._edge l.planes.items l.bytes l.rest
