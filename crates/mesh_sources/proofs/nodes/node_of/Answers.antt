use Rattle.mesh_sources.specs.declared.nodes.Node.{Node}
use Rattle.mesh_sources.proofs.Bounded.{bounds_widened}
use Rattle.mesh_sources.proofs.NodeLists.{nodes_more}
use Rattle.mesh_sources.proofs.nodes.node_of.Goals as goal

pub returns-clause-nodes : goal.returns-clause-nodes
returns-clause-nodes c =
    let n : Node = record { item = c.args.item.now; start = c.start_of-start.result; bounds = c.joined_from.result } in
    nodes_more c.args.nodes.now n c.requires.nodes c.start_of-start.ensures
    (bounds_widened c.bounds_of.ensures c.joined_from.ensures.own) c.joined_from.ensures.nodes
