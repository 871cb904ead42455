use Rattle.ember_leaf.proofs.TriRelations.{parted_by}
use Rattle.ember_leaf.proofs.relation.separates.Goals as goal

pub returns-then-lie_in_front : goal.returns-then-lie_in_front
returns-then-lie_in_front g c =
    λ e. parted_by c.args.first.now.tri c.args.second.now.tri c.args.first.now.edges c.loop-i.i c.requires.first
    c.requires.second c.args.first.now.edge_planes c.loop-i-test.true c.heights_of.ensures.value c.lie_in_front.ensures
    c.if-lie_in_front.true
