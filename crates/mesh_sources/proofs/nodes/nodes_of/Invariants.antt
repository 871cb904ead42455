use Rattle.std.proofs.Common.{◌≡◌, take}
use Rattle.mesh_sources.specs.Nodes.{AreNodes, items_in}
use Rattle.mesh_sources.proofs.nodes.nodes_of.Given as goal

abbrev pub invariant-loop-item : goal.invariant-loop-item
invariant-loop-item l =
    record {
      nodes : AreNodes l.nodes.items;
      items : items_in l.nodes.items ≡ take l.item-index l.items;
    }
