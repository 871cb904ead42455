use Rattle.std.proofs.Common.{◌∙◌}
use Rattle.ember_width.specs.Heights.{all_on}
use Rattle.ember_leaf.proofs.TriRelations.{heights_test_moved, own_in_front, own_behind, coplanar_is}
use Rattle.ember_leaf.proofs.CoplanarFaces.{coplanar_turned, not_coplanar_turned}
use Rattle.ember_leaf.proofs.relation.relation_of.Goals as goal

pub returns-then-lie_in_front : goal.returns-then-lie_in_front
returns-then-lie_in_front g c =
    own_in_front c.args.first.now.tri c.args.second.now.tri c.requires.first c.requires.second c.args.second.now.plane
    c.heights_of-heights.ensures.value c.lie_in_front.ensures c.if-lie_in_front.true

pub returns-then-lie_behind : goal.returns-then-lie_behind
returns-then-lie_behind g c =
    own_behind c.args.first.now.tri c.args.second.now.tri c.requires.first c.requires.second c.args.second.now.plane
    c.heights_of-heights.ensures.value c.lie_behind.ensures c.if-lie_behind.true

pub coplanar_relation-requires-clause-plane : goal.coplanar_relation-requires-clause-plane
coplanar_relation-requires-clause-plane g c =
    let t = c.args.first.now.tri in let u = c.args.second.now.tri in
    coplanar_turned t u (coplanar_is u t c.requires.second c.requires.first
    ∙ heights_test_moved all_on t c.args.second.now.plane c.heights_of-heights.ensures.value c.all_on.ensures
    c.if-all_on.true)

pub crossing_relation-requires-clause-plane : goal.crossing_relation-requires-clause-plane
crossing_relation-requires-clause-plane g c =
    let t = c.args.first.now.tri in let u = c.args.second.now.tri in
    not_coplanar_turned t u (coplanar_is u t c.requires.second c.requires.first
    ∙ heights_test_moved all_on t c.args.second.now.plane c.heights_of-heights.ensures.value c.all_on.ensures
    c.if-all_on.false)
