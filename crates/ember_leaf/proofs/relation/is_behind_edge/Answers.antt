use Rattle.ember_leaf.proofs.TriRelations.{behind_by}
use Rattle.ember_leaf.proofs.relation.is_behind_edge.Goals as goal

pub returns : goal.returns
returns g c =
    λ e. behind_by c.args.first.now.tri c.args.second.now.tri c.args.first.now.edges c.args.edge c.requires.second
    c.args.first.now.edge_planes c.requires.edge c.heights_of.ensures.value c.lie_behind.ensures e
