use Rattle.mesh_sources.specs.Nodes.{AreItems}
use Rattle.mesh_sources.proofs.items.items_in_order.Given as goal

abbrev pub invariant-loop-i : goal.invariant-loop-i
invariant-loop-i l = AreItems l.scene l.i l.items.items
