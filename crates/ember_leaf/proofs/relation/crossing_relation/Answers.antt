use Rattle.ember_width.specs.Heights.{all_in_front, all_behind}
use Rattle.ember_leaf.proofs.TriRelations.{heights_test_moved, apart_in_front, apart_behind}
use Rattle.ember_leaf.proofs.relation.crossing_relation.Goals as goal

pub returns-then-all_in_front : goal.returns-then-all_in_front
returns-then-all_in_front g c =
    apart_in_front c.args.first.now.tri c.args.second.now.tri c.requires.first c.requires.second
    (heights_test_moved all_in_front c.args.second.now.tri c.args.first.now.plane c.heights_of-heights.ensures.value
    c.all_in_front.ensures c.if-all_in_front.true)

pub returns-then-all_behind : goal.returns-then-all_behind
returns-then-all_behind g c =
    apart_behind c.args.first.now.tri c.args.second.now.tri c.requires.first c.requires.second
    (heights_test_moved all_behind c.args.second.now.tri c.args.first.now.plane c.heights_of-heights.ensures.value
    c.all_behind.ensures c.if-all_behind.true)
