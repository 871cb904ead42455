use Rattle.ember_leaf.proofs.TriRelations.{covered_by}
use Rattle.ember_leaf.proofs.relation.covers.Goals as goal

pub returns : goal.returns
returns g c =
    λ e. covered_by c.args.first.now.tri c.args.second.now.tri c.requires.plane
    (c.is_behind_edge.ensures c.if-not-is_behind_edge.false)
    (c.is_behind_edge-2.ensures c.if-not-is_behind_edge-2.false) (c.is_behind_edge-3.ensures e)
