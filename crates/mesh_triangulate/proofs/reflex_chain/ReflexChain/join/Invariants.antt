use Rattle.std.specs.VecDeque.{deque_len}
use Rattle.mesh_triangulate.proofs.reflex_chain.ReflexChain.join.Given as goal

abbrev pub decreases-below : goal.decreases-below
decreases-below l = deque_len l.lower

abbrev pub decreases-above : goal.decreases-above
decreases-above l = deque_len l.upper
