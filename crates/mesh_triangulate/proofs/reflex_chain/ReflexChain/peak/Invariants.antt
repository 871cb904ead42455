use Rattle.std.proofs.Common.{◌-◌}
use Rattle.mesh_triangulate.proofs.reflex_chain.ReflexChain.peak.Given as goal

abbrev pub decreases-halves : goal.decreases-halves
decreases-halves l = l.high - l.low
