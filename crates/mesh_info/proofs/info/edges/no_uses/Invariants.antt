use Rattle.std.proofs.Common.{◌≡◌, replicate}
use Rattle.mesh_info.proofs.EdgeUses.{none}
use Rattle.mesh_info.proofs.info.edges.no_uses.Given as goal

abbrev pub invariant-loop-edge : goal.invariant-loop-edge
invariant-loop-edge l = l.uses.items ≡ replicate l._edge none
